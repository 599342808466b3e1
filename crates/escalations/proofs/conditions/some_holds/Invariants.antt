use Rattle.std.proofs.Common.{◌≡◌, drop}
use Rattle.std.specs.List.{list_any}
use Rattle.escalations.specs.Conditions.{holds}
use Rattle.escalations.proofs.conditions.some_holds.Given as goal

abbrev pub invariant-loop-condition : goal.invariant-loop-condition
invariant-loop-condition l = list_any (holds l.groups l.problem) (drop l.condition-index l.conditions) ≡ list_any (holds l.groups l.problem) l.conditions
