use Rattle.std.proofs.Common.{◌≡◌, ◌++◌, drop}
use Rattle.preprocess.proofs.memories.push_copies.Given as goal

abbrev pub invariant-loop-mark : goal.invariant-loop-mark
invariant-loop-mark l = l.made ++ drop l.mark-index l.marks ≡ l.fn.made ++ l.marks
