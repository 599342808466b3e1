use Rattle.std.proofs.Common.{◌≡◌, take}
use Rattle.entry_step.proofs.same.same_memories.Given as goal

abbrev pub invariant-loop-index : goal.invariant-loop-index
invariant-loop-index l = take l.index l.ones ≡ take l.index l.others
