-- Numbers and periods in expressions.
use Rattle.std.specs.Prelude.{◌≡◌, ◌≤◌, ◌*◌, ℕ, List, [], ◌∷◌, ◌++◌, Option, Some, None, Bool, false, ◌==◌, nat_le}
use Rattle.std.specs.Prelude.{if◌then◌else◌, unsigned_abs}
use Rattle.std.specs.Option.{option_map}
use Rattle.zbx_types.specs.Numerals.{digits_after, read_number}
use Rattle.expr_parser.specs.Bytes.{AreDigits, Digits}

-- the seconds of a period's suffix
abbrev pub period_factor : ℕ → Option ℕ
period_factor b =
    if b == 115 then Some 1 else if b == 109 then Some 60 else if b == 104 then Some 3600
    else if b == 100 then Some 86400 else if b == 119 then Some 604800 else None

-- what the suffix of a number multiplies it by: s, m, h, d, w as in periods, K, M, G, T
abbrev pub number_factor : ℕ → Option ℕ
number_factor b =
    if b == 75 then Some 1024 else if b == 77 then Some 1048576 else if b == 71 then Some 1073741824
    else if b == 84 then Some 1099511627776 else period_factor b

-- digits, and optionally a point and digits
pub data IsDecimal : List ℕ → Type 0 where
  whole : (b : ℕ) (bs : List ℕ) → AreDigits (b ∷ bs) → IsDecimal (b ∷ bs)
  pointed : {t : List ℕ} (b c : ℕ) (bs cs : List ℕ) → AreDigits (b ∷ bs) → AreDigits (c ∷ cs)
      → t ≡ (b ∷ bs) ++ 46 ∷ c ∷ cs → IsDecimal t

-- the millionths of a decimal, cut, where they are in range
abbrev pub millionths : List ℕ → Option ℕ
millionths text = option_map unsigned_abs (read_number text)

-- there is a number, and it is at most so great
abbrev pub is_at_most : ℕ → Option ℕ → Bool
is_at_most most None = false
is_at_most most (Some n) = nat_le n most

-- digits, at least one, that write so many millionths
abbrev pub IsWritten : List ℕ → ℕ → Type 0
IsWritten t n = (b : ℕ) × (bs : List ℕ) × (t ≡ b ∷ bs) × AreDigits (b ∷ bs) × (digits_after 0 t * 1000000 ≡ n)

-- the text is a number of so many millionths, at most `most`: a decimal, and optionally a suffix that multiplies it
pub data IsNumber (most : ℕ) : List ℕ → ℕ → Type 0 where
  decimal : {t : List ℕ} {n : ℕ} → IsDecimal t → millionths t ≡ Some n → n ≤ most → IsNumber most t n
  suffixed : {t : List ℕ} {n : ℕ} (u : List ℕ) (b m f : ℕ) → IsDecimal u → millionths u ≡ Some m → m ≤ most
      → number_factor b ≡ Some f
      → n ≡ m * f → n ≤ most → t ≡ u ++ b ∷ [] → IsNumber most t n

-- the text is a period of so many seconds: digits, and optionally a suffix
pub data IsPeriod (least most : ℕ) : List ℕ → ℕ → Type 0 where
  seconds : {n : ℕ} (b : ℕ) (bs : List ℕ) → Digits 0 (b ∷ bs) n → least ≤ n → n ≤ most → IsPeriod least most (b ∷ bs) n
  suffixed_period : {t : List ℕ} {n : ℕ} (b : ℕ) (bs : List ℕ) (c m f : ℕ) → Digits 0 (b ∷ bs) m
      → period_factor c ≡ Some f → n ≡ m * f → least ≤ n → n ≤ most
      → t ≡ (b ∷ bs) ++ c ∷ [] → IsPeriod least most t n
