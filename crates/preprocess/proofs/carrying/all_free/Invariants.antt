use Rattle.std.proofs.Common.{◌≡◌, true, replicate}
use Rattle.preprocess.proofs.carrying.all_free.Given as goal

abbrev pub invariant-loop-cell : goal.invariant-loop-cell
invariant-loop-cell l = l.free.items ≡ replicate l._cell true
