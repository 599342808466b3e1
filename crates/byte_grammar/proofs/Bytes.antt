-- Bytes that each pass a test.
use Rattle.std.proofs.Common.{◌≡◌, ℕ, List, [], ◌∷◌, ◌++◌, Bool, true}
use Rattle.byte_grammar.specs.Bytes.{Each}

pub each_none : (t : ℕ → Bool) → Each t []
unfolding Each
each_none t = tt

pub each_one : (t : ℕ → Bool) (b : ℕ) → t b ≡ true → Each t (b ∷ [])
unfolding Each
each_one t b h = (h, tt)

pub each_snoc : (t : ℕ → Bool) (x : List ℕ) (b : ℕ) → Each t x → t b ≡ true → Each t (x ++ b ∷ [])
unfolding Each
each_snoc t [] b e h = (h, tt)
each_snoc t (c ∷ x) b e h = (e.0, each_snoc t x b e.1 h)

-- the first bytes do, and those after them
pub each_front : (t : ℕ → Bool) (a b : List ℕ) → Each t (a ++ b) → Each t a
unfolding Each
each_front t [] b e = tt
each_front t (c ∷ a) b e = (e.0, each_front t a b e.1)

pub each_back : (t : ℕ → Bool) (a b : List ℕ) → Each t (a ++ b) → Each t b
unfolding Each
each_back t [] b e = e
each_back t (c ∷ a) b e = each_back t a b e.1
