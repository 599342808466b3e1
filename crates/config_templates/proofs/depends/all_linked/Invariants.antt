use Rattle.std.proofs.Common.{◌≡◌}
use Rattle.config_templates.specs.Depends.{linked_from}
use Rattle.config_templates.proofs.depends.all_linked.Given as goal

abbrev pub invariant-loop-trigger : goal.invariant-loop-trigger
invariant-loop-trigger l = l.made ≡ linked_from l.links l.depths 0 l.yielded
