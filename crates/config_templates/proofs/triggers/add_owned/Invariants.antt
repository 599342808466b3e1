use Rattle.std.proofs.Common.{◌≡◌, drop, map}
use Rattle.host_layout.specs.Names.{named_triggers}
use Rattle.host_layout.specs.Owners.{owner_now}
use Rattle.host_layout.specs.Places.{each_list}
use Rattle.host_layout.specs.Sources.{placed_of}
use Rattle.config_templates.specs.Triggers.{trigger_of, placed_triggers}
use Rattle.config_templates.proofs.triggers.add_owned.Given as goal

abbrev pub invariant-loop-source : goal.invariant-loop-source
invariant-loop-source l = record {
  gives : each_list (trigger_of l.scope.raw.now l.scope.items.now.items (owner_now l.owner) l.owner.macros) l.list.found (placed_triggers (map placed_of (drop l.source-index l.owner.sources)))
      ≡ each_list (trigger_of l.scope.raw.now l.scope.items.now.items (owner_now l.owner) l.owner.macros) l.fn.list.found (placed_triggers (map placed_of l.owner.sources));
  names : l.list.names ≡ named_triggers l.list.found.triggers;
}
