use Rattle.std.proofs.Common.{◌≡◌, drop}
use Rattle.std.specs.List.{list_any}
use Rattle.event_correlation.specs.Conditions.{holds}
use Rattle.event_correlation.proofs.matching.some_holds.Given as goal

abbrev pub invariant-loop-condition : goal.invariant-loop-condition
invariant-loop-condition l = list_any (holds l.groups l.new l.old) (drop l.condition-index l.conditions) ≡ list_any (holds l.groups l.new l.old) l.conditions
