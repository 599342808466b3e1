-- Laws of the written form of numbers.
use Rattle.std.proofs.Common.{◌≡◌, ℕ, suc, Bool, true, false, ◌&&◌, ◌==◌, List, [], ◌∷◌, ◌++◌, cond, refl, ap, sym, arith, ◌≢◌, ne_eqb, ◌∙◌, ℤ, pos, negsuc, int_lt, unsigned_abs}
use Rattle.std.specs.List.{list_all}
use Rattle.std.proofs.lemmas.Bool.{ltb-true}
use Rattle.zbx_types.specs.Written.{without_last_zeros, written_unsigned, written}

-- one more zero at the end
zeros_more : (ds : List ℕ) → list_all (λ d. d == 48) (ds ++ 48 ∷ []) ≡ list_all (λ d. d == 48) ds
zeros_more [] = refl
zeros_more (c ∷ cs) = ap (λ b. (c == 48) && b) (zeros_more cs)

pub without_last_zeros-zero : (ds : List ℕ) → without_last_zeros (ds ++ 48 ∷ []) ≡ without_last_zeros ds
without_last_zeros-zero [] = refl
without_last_zeros-zero (c ∷ cs) =
    ap (λ b. cond ((c == 48) && b) [] (c ∷ without_last_zeros (cs ++ 48 ∷ []))) (zeros_more cs)
    ∙ ap (λ t. cond (list_all (λ d. d == 48) (c ∷ cs)) [] (c ∷ t)) (without_last_zeros-zero cs)

-- another digit at the end
zeros_end : (c : ℕ) (ds : List ℕ) → (c == 48) ≡ false → list_all (λ d. d == 48) (ds ++ c ∷ []) ≡ false
zeros_end c [] h = rw h refl
zeros_end c (d ∷ ds) h = rw (zeros_end c ds h) (false_right (d == 48))
  where
    false_right : (b : Bool) → (b && false) ≡ false
    false_right true = refl
    false_right false = refl

pub without_last_zeros-other : (c : ℕ) (ds : List ℕ) → (c == 48) ≡ false → without_last_zeros (ds ++ c ∷ []) ≡ ds ++ c ∷ []
without_last_zeros-other c [] h = rw h refl
without_last_zeros-other c (d ∷ ds) h = rw (zeros_end c (d ∷ ds) h) (ap (λ t. d ∷ t) (without_last_zeros-other c ds h))

pub without_last_zeros-step : (ds front : List ℕ) (c : ℕ) → ds ≡ front ++ c ∷ [] → c ≡ 48 → without_last_zeros ds ≡ without_last_zeros front
without_last_zeros-step ds front c e z = ap without_last_zeros (e ∙ ap (λ d. front ++ d ∷ []) z) ∙ without_last_zeros-zero front

pub without_last_zeros-stop : (ds front : List ℕ) (c : ℕ) → ds ≡ front ++ c ∷ [] → c ≢ 48 → without_last_zeros ds ≡ ds
without_last_zeros-stop ds front c e z = ap without_last_zeros e ∙ without_last_zeros-other c front (ne_eqb c 48 z) ∙ sym e

not_negative : (n : ℕ) → int_lt (pos n) (pos 0) ≡ true → ⊥
not_negative n h = omega (arith, ltb-true n 0 h)

not_positive : (n : ℕ) → int_lt (negsuc n) (pos 0) ≡ false → ⊥
not_positive n h = cc

-- the written form by its sign, which stands in `text`
pub written-negative : (z : ℤ) (text out : List ℕ) → int_lt z (pos 0) ≡ true → text ≡ 45 ∷ [] → out ≡ text ++ written_unsigned (unsigned_abs z) → out ≡ written z
unfolding written
written-negative (pos n) text out h t e = absurd (not_negative n h)
written-negative (negsuc n) text out h t e = e ∙ ap (λ s. s ++ written_unsigned (suc n)) t

pub written-positive : (z : ℤ) (text out : List ℕ) → int_lt z (pos 0) ≡ false → text ≡ [] → out ≡ text ++ written_unsigned (unsigned_abs z) → out ≡ written z
unfolding written
written-positive (pos n) text out h t e = e ∙ ap (λ s. s ++ written_unsigned n) t
written-positive (negsuc n) text out h t e = absurd (not_positive n h)
