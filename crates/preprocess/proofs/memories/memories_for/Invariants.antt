use Rattle.std.proofs.Common.{◌≡◌, ◌++◌, map, drop}
use Rattle.preprocess.specs.Carry.{carried_for}
use Rattle.preprocess.specs.Chains.{listed}
use Rattle.preprocess.proofs.memories.memories_for.Given as goal

abbrev pub invariant-loop-place : goal.invariant-loop-place
invariant-loop-place l = l.made.items ++ map (carried_for l.old l.new (listed l.memories)) (drop l.place l.new.items) ≡ map (carried_for l.old l.new (listed l.memories)) l.new.items
