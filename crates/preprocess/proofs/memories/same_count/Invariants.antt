use Rattle.std.proofs.Common.{◌≡◌, ◌++◌, drop, take}
use Rattle.preprocess.specs.Carry.{carried_along}
use Rattle.preprocess.proofs.memories.same_count.Given as goal

abbrev pub invariant-loop-place : goal.invariant-loop-place
invariant-loop-place l =
    carried_along l.olds l.marks l.steps ≡ take l.place l.marks ++ carried_along (drop l.place l.olds) (drop l.place l.marks) (drop l.place l.steps)
