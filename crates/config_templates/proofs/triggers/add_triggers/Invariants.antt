use Rattle.std.proofs.Common.{◌≡◌, ◌++◌, drop, codes}
use Rattle.host_layout.specs.Elements.{own_triggers}
use Rattle.host_layout.specs.Names.{named_triggers}
use Rattle.host_layout.specs.Owners.{owner_now}
use Rattle.host_layout.specs.Places.{each_list, placed_from}
use Rattle.host_layout.specs.Sources.{placed_of}
use Rattle.config_templates.specs.Triggers.{trigger_of}
use Rattle.config_templates.proofs.triggers.add_triggers.Given as goal

abbrev pub invariant-loop-index : goal.invariant-loop-index
invariant-loop-index l = record {
  gives : each_list (trigger_of l.scope.raw.now l.scope.items.now.items (owner_now l.owner) l.owner.macros) l.list.found (placed_from ((placed_of l.source).path ++ codes "/triggers") l.index (drop l.index l.source.body.now.triggers))
      ≡ each_list (trigger_of l.scope.raw.now l.scope.items.now.items (owner_now l.owner) l.owner.macros) l.fn.list.found (own_triggers l.source);
  names : l.list.names ≡ named_triggers l.list.found.triggers;
}
