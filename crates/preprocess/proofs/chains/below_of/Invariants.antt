use Rattle.std.proofs.Common.{◌≡◌, ◌≤◌, ◌+◌, ◌++◌, ℕ, length, drop}
use Rattle.preprocess.specs.Chains.{dependents_from, listed}
use Rattle.preprocess.proofs.chains.below_of.Given as goal

abbrev pub invariant-loop-index : goal.invariant-loop-index
invariant-loop-index l = record {
  counted : length l.below.items ≡ length l.conf.items;
  below : (q : ℕ) → 1 ≤ q → q ≤ length l.conf.items
      → listed l.below.items q ++ dependents_from q (l.index + 1) (drop l.index l.conf.items) ≡ dependents_from q 1 l.conf.items;
}
