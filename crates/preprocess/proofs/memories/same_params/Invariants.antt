use Rattle.std.proofs.Common.{◌≡◌, drop, length}
use Rattle.std.specs.Cmp.Lexicographic.{pointwise}
use Rattle.std.specs.Str.{bytes_eq}
use Rattle.preprocess.proofs.memories.same_params.Given as goal

abbrev pub invariant-loop-place : goal.invariant-loop-place
invariant-loop-place l = record {
  lengths : length l.one ≡ length l.other;
  same : pointwise bytes_eq (drop l.place l.one) (drop l.place l.other) ≡ pointwise bytes_eq l.one l.other;
}
