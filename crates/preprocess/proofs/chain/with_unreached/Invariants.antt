use Rattle.std.proofs.Common.{◌≡◌, ◌+◌, ◌++◌, drop}
use Rattle.preprocess.specs.Chain.{unreached}
use Rattle.preprocess.specs.Ways.{memory_at}
use Rattle.preprocess.proofs.chain.with_unreached.Given as goal

abbrev pub invariant-loop-index : goal.invariant-loop-index
invariant-loop-index l =
    l.marks ++ unreached (drop l.index l.steps) (l.index + 1) (memory_at l.memories) ≡ l.fn.marks ++ unreached (drop l.from l.steps) (l.from + 1) (memory_at l.memories)
