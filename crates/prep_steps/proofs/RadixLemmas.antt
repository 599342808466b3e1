-- Laws of digits of a radix.
use Rattle.std.proofs.Common.{ℕ, ◌+◌, ◌*◌, ◌≤◌, ◌<◌, List, [], ◌∷◌, arith}
use Rattle.std.specs.Char.{digit_value}
use Rattle.std.specs.Str.Parse.{digits_value_after}
use Rattle.std.proofs.Math.Nat.{le-mul_of_pos_right}

-- more digits write no smaller number
pub digits_value_after-ge : (radix n : ℕ) (ds : List ℕ) → 0 < radix → n ≤ digits_value_after radix n ds
digits_value_after-ge radix n [] h = omega arith
digits_value_after-ge radix n (c ∷ cs) h = omega (arith, le-mul_of_pos_right {m = radix} n h, digits_value_after-ge radix (n * radix + digit_value c) cs h)
