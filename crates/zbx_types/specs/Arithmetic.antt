-- Sums, differences, products and quotients of numbers, and truths as numbers, each number by its millionths.
use Rattle.std.specs.Ordering.{int_eq}
use Rattle.std.specs.Prelude.{◌^◌, ◌==◌, nat_le, Bool, not, Option, Some, None, if◌then◌else◌, ℤ, pos, ◌+ℤ◌, ◌-ℤ◌, ◌*ℤ◌, unsigned_abs, int_div}

-- the number of this many millionths, where it is in range
unfoldable pub in_range : ℤ → Option ℤ
in_range z = if nat_le (unsigned_abs z) (10 ^ 30) then Some z else None

-- 1 for what holds, and 0 for what doesn't
abbrev pub truth : Bool → ℤ
truth holds = if holds then pos 1000000 else pos 0

-- a number other than 0 is true
abbrev pub is_true : ℤ → Bool
is_true z = not (int_eq z (pos 0))

-- the sum, exact
unfoldable pub sum_of : ℤ → ℤ → Option ℤ
sum_of a b = in_range (a +ℤ b)

-- the difference, exact
unfoldable pub difference_of : ℤ → ℤ → Option ℤ
difference_of a b = in_range (a -ℤ b)

-- the product, cut towards zero (where the product of the millionths passes 128 bits, the cut one is out of range)
unfoldable pub product_of : ℤ → ℤ → Option ℤ
product_of a b = in_range (int_div (a *ℤ b) (pos 1000000))

-- the quotient, cut towards zero, and none by zero
unfoldable pub quotient_of : ℤ → ℤ → Option ℤ
quotient_of a b = if unsigned_abs b == 0 then None else in_range (int_div (a *ℤ pos 1000000) b)
