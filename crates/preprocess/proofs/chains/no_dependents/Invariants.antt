use Rattle.std.proofs.Common.{◌≡◌, [], replicate}
use Rattle.preprocess.proofs.chains.no_dependents.Given as goal

abbrev pub invariant-loop-item : goal.invariant-loop-item
invariant-loop-item l = l.below.items ≡ replicate l._item []
