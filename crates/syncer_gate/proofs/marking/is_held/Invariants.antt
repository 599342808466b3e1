use Rattle.std.proofs.Common.{◌≡◌, ◌+◌, drop}
use Rattle.syncer_gate.specs.Gate.{held_by, same_numbers}
use Rattle.syncer_gate.proofs.marking.is_held.Given as goal

abbrev pub invariant-loop-place : goal.invariant-loop-place
invariant-loop-place l =
    same_numbers l.rest (held_by l.id (l.first + l.place) (drop l.place l.marks)) ≡ same_numbers l.numbers (held_by l.id l.first l.marks)
