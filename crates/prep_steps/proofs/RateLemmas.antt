-- Laws of the change per second.
use Rattle.std.proofs.Common.{◌≡◌, ℕ, ◌*◌, ◌/◌, ◌-◌, ◌^◌, ◌≤◌, ◌<◌, Option, SomeIff, refl, arith, ◌∙◌, sym, ap, ℤ, pos, ◌-ℤ◌, unsigned_abs, FitsSigned}
use Rattle.std.specs.Int.{w128, cast_signed, cast_unsigned}
use Rattle.std.proofs.lemmas.Int.{fits_signed_from_abs, to_z-of_z, to_z_pos, ints}
use Rattle.std.proofs.Math.Nat.{div-le_self}
use Rattle.std.proofs.lemmas.Bool.{le-leb}
use Rattle.zbx_types.proofs.ArithmeticLemmas.{taken_in_range}
use Rattle.prep_steps.specs.Changes.{growth, rate}

-- a number goes through 128 bits, and so does the difference of two
abbrev pub through : ℤ → ℤ
through z = cast_signed w128 (cast_unsigned w128 z)

difference_fits : (b z : ℤ) → unsigned_abs b ≤ 10 ^ 30 → unsigned_abs z ≤ 10 ^ 30 → FitsSigned w128 (z -ℤ b)
difference_fits b z hb hz = omega (arith, ints)

growth_is : (b z : ℤ) → unsigned_abs b ≤ 10 ^ 30 → unsigned_abs z ≤ 10 ^ 30 → unsigned_abs (through (through z -ℤ through b)) ≡ growth b z
growth_is b z hb hz =
    let zf : FitsSigned w128 z = fits_signed_from_abs w128 z (omega arith) in
    let bf : FitsSigned w128 b = fits_signed_from_abs w128 b (omega arith) in
    rw (to_z-of_z w128 z zf, to_z-of_z w128 b bf, to_z-of_z w128 (z -ℤ b) (difference_fits b z hb hz)) refl

-- the quotient of the growth is the rate
pub rate_is : (b z : ℤ) (g d n : ℕ) (r : Option ℤ) → unsigned_abs b ≤ 10 ^ 30 → unsigned_abs z ≤ 10 ^ 30
    → g ≡ unsigned_abs (through (through z -ℤ through b)) → d ≡ g * 1000000000 → d ≤ 2 ^ 127 - 1
    → SomeIff r (unsigned_abs (cast_signed w128 (d / n)) ≤ 10 ^ 30) (cast_signed w128 (d / n)) → r ≡ rate b z n
unfolding rate
rate_is b z g d n r hb hz hg hd small h =
    let e : growth b z * 1000000000 ≡ d = ap (λ x. x * 1000000000) (sym (hg ∙ growth_is b z hb hz)) ∙ sym hd in
    let q : d / n < 2 ^ 127 = omega (arith, div-le_self d n) in
    let h2 = rw (to_z_pos w128 (d / n) q) at h in
    rw (e, le-leb d (2 ^ 127 - 1) small) (taken_in_range (pos (d / n)) r h2)
