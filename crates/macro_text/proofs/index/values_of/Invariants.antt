use Rattle.std.proofs.Common.{◌≡◌, ℕ, List, take, map}
use Rattle.macro_text.specs.Index.{macro_now, value_in, first_value}
use Rattle.macro_text.proofs.index.values_of.Given as goal

abbrev pub invariant-loop-more : goal.invariant-loop-more
invariant-loop-more l = (q : List ℕ) → value_in l.values q ≡ first_value (map macro_now (take l.more-index l.listed)) q
