-- A written number is read as the number.
use Rattle.std.proofs.Common.{◌≡◌, ℕ, zero, suc, ◌+◌, ◌-◌, ◌*◌, ◌/◌, ◌%◌, ◌^◌, ◌<◌, ◌≤◌, Bool, true, false, ◌==◌, List, [], ◌∷◌, ◌++◌, length, cond, one-add, refl, ap, sym, arith, ◌∙◌, Some, ℤ, pos, negsuc, unsigned_abs, ne_eqb, append_assoc}
use Rattle.std.proofs.Math.Seq.{take-append_seam, drop-append_seam, take-length, drop-length}
use Rattle.std.proofs.lemmas.Bool.{le-leb, eqb-true}
use Rattle.std.proofs.lemmas.Bool.Decides.{nat_tests}
use Rattle.std.proofs.lemmas.Grind.{common_steps}
use Rattle.std.proofs.lemmas.List.{append-nil}
use Rattle.std.proofs.lemmas.Str.{IsAscii-append, IsUtf8-from_ascii}
use Rattle.std.specs.Str.{IsAscii, IsUtf8}
use Rattle.std.specs.Char.{is_ascii_digit}
use Rattle.std.specs.Fmt.{decimal}
use Rattle.std.specs.Option.{option_and_then}
use Rattle.zbx_types.specs.Digits.{last_six_digits}
use Rattle.zbx_types.specs.Numerals.{Numeral, digits_after, all_digits, digit_count, front_digits, behind_digits, exponent_of, numeral_with, pointed_of, unsigned_of, numeral_of, magnitude, signed, value_of, read_number}
use Rattle.zbx_types.specs.Written.{without_last_zeros, written_unsigned, written}
use Rattle.zbx_types.proofs.NumeralLemmas.{digit_front, digits_after-append, scaled_up}
use Rattle.zbx_types.proofs.DigitLemmas.{Writes, decimal-writes, ascii_digits, six_are_digits, six_write, length-without_last_zeros, digits-without_last_zeros, value-without_last_zeros}

-- the digits at the front of digits, with something else behind them
count_front : (a b : List ℕ) → all_digits a ≡ true → digit_count b ≡ 0 → digit_count (a ++ b) ≡ length a
count_front [] b h e = e
count_front (c ∷ cs) b h e =
    let tests = digit_front c cs h in
    rw (tests.0, count_front cs b tests.1 e) (one-add (length cs))

front_of : (a b : List ℕ) → all_digits a ≡ true → digit_count b ≡ 0 → front_digits (a ++ b) ≡ a
front_of a b h e = rw (count_front a b h e) (take-append_seam a b)

behind_of : (a b : List ℕ) → all_digits a ≡ true → digit_count b ≡ 0 → behind_digits (a ++ b) ≡ b
behind_of a b h e = rw (count_front a b h e) (drop-append_seam a b)

count_all : (a : List ℕ) → all_digits a ≡ true → digit_count a ≡ length a
count_all a h = ap digit_count (sym (append-nil a)) ∙ count_front a [] h refl

-- what the digits of a whole part and decimals make
abbrev numeral : Bool → List ℕ → List ℕ → Numeral
numeral negative whole decimals = record { negative = negative; whole = whole; decimals = decimals; up = 0; down = 0 }

with_digits : (negative : Bool) (whole decimals : List ℕ) → 0 < length whole → numeral_with negative whole decimals [] ≡ Some (numeral negative whole decimals)
unfolding numeral_with exponent_of
with_digits negative whole decimals some =
    let not_none : (length whole + length decimals == 0) ≡ false = ne_eqb (length whole + length decimals) 0 (omega arith) in
    rw not_none refl

whole_alone : (negative : Bool) (whole : List ℕ) → all_digits whole ≡ true → 0 < length whole → unsigned_of negative whole ≡ Some (numeral negative whole [])
unfolding unsigned_of pointed_of
whole_alone negative whole h some = rw (count_all whole h, take-length whole, drop-length whole) (with_digits negative whole [] some)

decimals_behind : (negative : Bool) (whole decimals : List ℕ) → all_digits whole ≡ true → all_digits decimals ≡ true → 0 < length whole
    → unsigned_of negative (whole ++ 46 ∷ decimals) ≡ Some (numeral negative whole decimals)
unfolding unsigned_of pointed_of
decimals_behind negative whole decimals h d some =
    rw (front_of whole (46 ∷ decimals) h refl, behind_of whole (46 ∷ decimals) h refl, count_all decimals d, take-length decimals, drop-length decimals)
    (with_digits negative whole decimals some)

-- digits in front are no sign
no_sign : (a b : List ℕ) → all_digits a ≡ true → 0 < length a → numeral_of (a ++ b) ≡ unsigned_of false (a ++ b)
unfolding numeral_of
no_sign [] b h some = absurd (omega arith)
no_sign (c ∷ cs) b h some =
    let digit = (digit_front c cs h).0 in
    rw (not_minus c digit, not_plus c digit) refl
  where
    not_minus : (c : ℕ) → is_ascii_digit c ≡ true → (c == 45) ≡ false
    not_minus c h = grind (arith, common_steps, nat_tests)

    not_plus : (c : ℕ) → is_ascii_digit c ≡ true → (c == 43) ≡ false
    not_plus c h = grind (arith, common_steps, nat_tests)

-- the millionths of a numeral
magnitude_is : (negative : Bool) (whole decimals : List ℕ) (w n : ℕ) → digits_after 0 whole ≡ w → length decimals ≤ 6
    → digits_after w decimals * 10 ^ (6 - length decimals) ≡ n → magnitude (numeral negative whole decimals) ≡ n
unfolding magnitude
magnitude_is negative whole decimals w n value few e =
    let behind : 0 + length decimals ≡ length decimals = omega arith in
    rw behind (scaled_up (digits_after 0 (whole ++ decimals)) 6 (length decimals) few ∙ rw (digits_after-append 0 whole decimals, value) e)

value_is : (negative : Bool) (whole decimals : List ℕ) (n : ℕ) → magnitude (numeral negative whole decimals) ≡ n → n ≤ 10 ^ 30
    → value_of (numeral negative whole decimals) ≡ Some (signed negative n)
unfolding value_of
value_is negative whole decimals n e small = rw (e, le-leb n (10 ^ 30) small) refl

-- a whole part and, where there is a fraction, a point and decimals
abbrev joined : Bool → List ℕ → List ℕ → List ℕ
joined no_fraction whole decimals = cond no_fraction whole (whole ++ 46 ∷ [] ++ decimals)

joined_again : (negative no_fraction : Bool) (whole decimals : List ℕ) (w f n : ℕ) → Writes w whole → all_digits decimals ≡ true → length decimals ≤ 6
    → (no_fraction ≡ true → f ≡ 0) → digits_after w decimals * 10 ^ (6 - length decimals) ≡ w * 1000000 + f → w * 1000000 + f ≡ n → n ≤ 10 ^ 30
    → option_and_then value_of (unsigned_of negative (joined no_fraction whole decimals)) ≡ Some (signed negative n)
joined_again negative true whole decimals w f n h d few none e sum small =
    rw (whole_alone negative whole h.digits h.some)
    (value_is negative whole [] n (magnitude_is negative whole [] w n h.value (omega arith) (omega (arith, none refl, sum))) small)
joined_again negative false whole decimals w f n h d few none e sum small =
    rw (append_assoc whole (46 ∷ []) decimals, decimals_behind negative whole decimals h.digits d h.some)
    (value_is negative whole decimals n (magnitude_is negative whole decimals w n h.value few (e ∙ sum)) small)

-- it begins with a digit
joined_first : (no_fraction : Bool) (whole decimals : List ℕ) (w : ℕ) → Writes w whole
    → numeral_of (joined no_fraction whole decimals) ≡ unsigned_of false (joined no_fraction whole decimals)
joined_first true whole decimals w h =
    let alone = no_sign whole [] h.digits h.some in
    rw (append-nil whole) at alone
joined_first false whole decimals w h = rw (append_assoc whole (46 ∷ []) decimals) (no_sign whole (46 ∷ decimals) h.digits h.some)

-- what stands behind the sign is read again
unsigned_again : (negative : Bool) (n : ℕ) → n ≤ 10 ^ 30 → option_and_then value_of (unsigned_of negative (written_unsigned n)) ≡ Some (signed negative n)
unsigned_again negative n small =
    let six = last_six_digits (n % 1000000) in
    joined_again negative (n % 1000000 == 0) (decimal (n / 1000000)) (without_last_zeros six) (n / 1000000) (n % 1000000) n
    (decimal-writes (n / 1000000) (omega arith)) (digits-without_last_zeros six (six_are_digits (n % 1000000))) (length-without_last_zeros six)
    (eqb-true (n % 1000000) 0) (value-without_last_zeros (n / 1000000) six ∙ six_write (n / 1000000) (n % 1000000) (omega arith)) (omega arith) small

unsigned_first : (n : ℕ) → n ≤ 10 ^ 30 → numeral_of (written_unsigned n) ≡ unsigned_of false (written_unsigned n)
unsigned_first n small =
    joined_first (n % 1000000 == 0) (decimal (n / 1000000)) (without_last_zeros (last_six_digits (n % 1000000))) (n / 1000000) (decimal-writes (n / 1000000) (omega arith))

behind_minus : (text : List ℕ) → numeral_of (45 ∷ text) ≡ unsigned_of true text
unfolding numeral_of
behind_minus text = refl

-- a written number is read as the number
pub written_is_read : (z : ℤ) → unsigned_abs z ≤ 10 ^ 30 → read_number (written z) ≡ Some z
unfolding read_number written
written_is_read (pos n) small = ap (option_and_then value_of) (unsigned_first n small) ∙ unsigned_again false n small
written_is_read (negsuc n) small = ap (option_and_then value_of) (behind_minus (written_unsigned (suc n))) ∙ unsigned_again true (suc n) small

-- a written number is ASCII
point_is_ascii : IsAscii (46 ∷ [])
point_is_ascii zero = omega arith
point_is_ascii (suc i) = omega arith

minus_is_ascii : IsAscii (45 ∷ [])
minus_is_ascii zero = omega arith
minus_is_ascii (suc i) = omega arith

joined_ascii : (no_fraction : Bool) (whole decimals : List ℕ) → all_digits whole ≡ true → all_digits decimals ≡ true → IsAscii (joined no_fraction whole decimals)
joined_ascii true whole decimals h d = ascii_digits whole h
joined_ascii false whole decimals h d =
    IsAscii-append (whole ++ 46 ∷ []) decimals (IsAscii-append whole (46 ∷ []) (ascii_digits whole h) point_is_ascii) (ascii_digits decimals d)

unsigned_ascii : (n : ℕ) → n ≤ 10 ^ 30 → IsAscii (written_unsigned n)
unsigned_ascii n small =
    let six = last_six_digits (n % 1000000) in
    let whole : Writes (n / 1000000) (decimal (n / 1000000)) = decimal-writes (n / 1000000) (omega arith) in
    joined_ascii (n % 1000000 == 0) (decimal (n / 1000000)) (without_last_zeros six) whole.digits
    (digits-without_last_zeros six (six_are_digits (n % 1000000)))

written_ascii : (z : ℤ) → unsigned_abs z ≤ 10 ^ 30 → IsAscii (written z)
unfolding written
written_ascii (pos n) small = unsigned_ascii n small
written_ascii (negsuc n) small = IsAscii-append (45 ∷ []) (written_unsigned (suc n)) minus_is_ascii (unsigned_ascii (suc n) small)

pub written-IsUtf8 : (z : ℤ) → unsigned_abs z ≤ 10 ^ 30 → IsUtf8 (written z)
written-IsUtf8 z small = IsUtf8-from_ascii (written z) (written_ascii z small)
