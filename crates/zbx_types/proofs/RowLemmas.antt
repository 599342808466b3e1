-- Items of lists by ids, where one is changed.
use Rattle.std.proofs.Common.{◌≡◌, ◌≢◌, ℕ, zero, suc, ◌-◌, ◌==◌, false, None, List, [], ◌∷◌, set, slice_get, refl, ap, ne_eqb, arith, option_map}
use Rattle.zbx_types.specs.Ids.{at_id}

pub slice_get_set_same : {A : Type 0} (xs : List A) (i : ℕ) (v : A) → slice_get (set xs i v) i ≡ option_map (λ _. v) (slice_get xs i)
slice_get_set_same [] i v = refl
slice_get_set_same (x ∷ xs) zero v = refl
slice_get_set_same (x ∷ xs) (suc i) v = slice_get_set_same xs i v

pub slice_get_set_other : {A : Type 0} (xs : List A) (i j : ℕ) (v : A) → i ≢ j → slice_get (set xs i v) j ≡ slice_get xs j
slice_get_set_other [] i j v ne = refl
slice_get_set_other (x ∷ xs) zero zero v ne = absurd (ne refl)
slice_get_set_other (x ∷ xs) zero (suc j) v ne = refl
slice_get_set_other (x ∷ xs) (suc i) zero v ne = refl
slice_get_set_other (x ∷ xs) (suc i) (suc j) v ne = slice_get_set_other xs i j v (λ e. ne (ap suc e))

pub at_zero : {A : Type 0} (xs : List A) → at_id xs 0 ≡ None
unfolding at_id
at_zero xs = refl

pub at_suc : {A : Type 0} (xs : List A) (k : ℕ) → at_id xs (suc k) ≡ slice_get xs k
unfolding at_id
at_suc xs k =
    let t : (suc k == 0) ≡ false = ne_eqb (suc k) 0 (λ q. absurd (omega arith)) in
    let m : suc k - 1 ≡ k = omega arith in
    rw (t, m) refl
