-- Laws of sums, products and quotients of numbers.
use Rattle.std.proofs.Common.{◌≡◌, ℕ, zero, suc, ◌^◌, ◌≤◌, inl, inr, Option, Some, None, SomeIff, refl, arith, ap, ℤ, pos, negsuc, ◌*ℤ◌, neg_ℤ, unsigned_abs, int_div, FitsSigned}
use Rattle.std.specs.Int.{w128, cast_unsigned}
use Rattle.std.proofs.lemmas.Int.{unsigned_abs-mul, fits_signed_from_abs}
use Rattle.std.proofs.Math.Nat.{div-le_self}
use Rattle.std.proofs.Math.Dec.{eqb-suc-zero}
use Rattle.std.proofs.lemmas.Bool.{le-leb, lt-leb, cases_lt}
use Rattle.zbx_types.specs.Arithmetic.{in_range, quotient_of}

abs_neg : (n : ℕ) → unsigned_abs (neg_ℤ (pos n)) ≡ n
abs_neg zero = refl
abs_neg (suc n) = refl

-- a quotient is no greater than what is divided
abs_quotient : (a b : ℤ) → unsigned_abs (int_div a b) ≤ unsigned_abs a
abs_quotient (pos a) (pos b) = div-le_self a b
abs_quotient (pos a) (negsuc b) = rw abs_neg (div-le_self a (suc b))
abs_quotient (negsuc a) (pos b) = rw abs_neg (div-le_self (suc a) b)
abs_quotient (negsuc a) (negsuc b) = div-le_self (suc a) (suc b)

-- a number in range stays within 128 bits when it is taken a million times, and when that is divided
pub scaled_fits : (a : ℤ) → unsigned_abs a ≤ 10 ^ 30 → FitsSigned w128 (a *ℤ pos 1000000)
scaled_fits a h = fits_signed_from_abs w128 _ (omega (arith, unsigned_abs-mul a (pos 1000000)))

pub quotient_fits : (a b : ℤ) → unsigned_abs a ≤ 10 ^ 30 → FitsSigned w128 (int_div (a *ℤ pos 1000000) b)
quotient_fits a b h = fits_signed_from_abs w128 _ (omega (arith, unsigned_abs-mul a (pos 1000000), abs_quotient (a *ℤ pos 1000000) b))

-- what a test of the range gives
pub taken_in_range : (z : ℤ) (r : Option ℤ) → SomeIff r (unsigned_abs z ≤ 10 ^ 30) z → r ≡ in_range z
unfolding in_range
taken_in_range z None h =
    elim (cases_lt (10 ^ 30) (unsigned_abs z)) [
      | inl more ↦ rw (lt-leb (unsigned_abs z) (10 ^ 30) more) refl
      | inr less ↦ absurd (h less)
    ]
taken_in_range z (Some r) h = rw (le-leb (unsigned_abs z) (10 ^ 30) h.0) (ap Some h.1)

-- a divisor that isn't 0
pub quotient_is : (a b : ℤ) → (cast_unsigned w128 b ≡ 0 → ⊥) → quotient_of a b ≡ in_range (int_div (a *ℤ pos 1000000) b)
unfolding quotient_of
quotient_is a (pos zero) h = absurd (h refl)
quotient_is a (pos (suc b)) h = rw eqb-suc-zero refl
quotient_is a (negsuc b) h = rw eqb-suc-zero refl
