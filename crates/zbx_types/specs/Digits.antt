-- Decimal digits as bytes.
use Rattle.std.specs.Prelude.{ℕ, ◌+◌, ◌/◌, ◌%◌, List, [], ◌∷◌}

-- the digit of a number at a power of ten
abbrev pub digit_at : ℕ → ℕ → ℕ
digit_at n power = 48 + n / power % 10

-- the last six digits of a number
abbrev pub last_six_digits : ℕ → List ℕ
last_six_digits n = digit_at n 100000 ∷ digit_at n 10000 ∷ digit_at n 1000 ∷ digit_at n 100 ∷ digit_at n 10 ∷ digit_at n 1 ∷ []
