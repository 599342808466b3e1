use Rattle.std.proofs.Common.{◌≡◌, drop, codes}
use Rattle.host_layout.specs.Names.{named_triggers}
use Rattle.host_layout.specs.Places.{each_list, placed_from}
use Rattle.host_layout.specs.Hosts.{owner_of}
use Rattle.config_templates.specs.Triggers.{triggers_from, triggers_of}
use Rattle.config_templates.proofs.triggers.triggers.Given as goal

abbrev pub invariant-loop-place : goal.invariant-loop-place
invariant-loop-place l = record {
  gives : each_list (λ found h. triggers_from l.scope.raw.now l.scope.items.now.items (owner_of l.scope.raw.now h) found) l.list.found (placed_from (codes "/hosts") l.place (drop l.place l.scope.raw.now.hosts))
      ≡ triggers_of l.scope.raw.now l.scope.items.now.items l.fn.patterns;
  names : l.list.names ≡ named_triggers l.list.found.triggers;
}
