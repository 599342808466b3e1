-- Written numbers are numbers of the grammar.
use Rattle.std.proofs.Common.{◌≡◌, ℕ, ◌+◌, ◌-◌, ◌*◌, ◌/◌, ◌%◌, ◌^◌, ◌≤◌, ◌<◌, List, [], ◌∷◌, ◌++◌, length, refl, ap, sym, subst, ◌∙◌, Bool, true, false, ◌==◌, arith, option_map, codes, pos, unsigned_abs, if◌then◌else◌, append_assoc}
use Rattle.std.specs.Fmt.{decimal}
use Rattle.std.proofs.lemmas.Bool.Decides.{nat_tests}
use Rattle.std.proofs.lemmas.Fmt.{decimal_by_steps_wide}
use Rattle.zbx_types.specs.Digits.{digit_at, last_six_digits}
use Rattle.std.specs.List.{list_all}
use Rattle.zbx_types.specs.Numerals.{digits_after}
use Rattle.zbx_types.specs.Written.{without_last_zeros, written}
use Rattle.zbx_types.proofs.DigitLemmas.{length-without_last_zeros, value-without_last_zeros, six_write}
use Rattle.zbx_types.proofs.ReadAgain.{written_is_read}
use Rattle.byte_grammar.specs.Bytes.{is_digit}
use Rattle.expr_parser.specs.Bytes.{AreDigits, Digits}
use Rattle.expr_parser.specs.Numbers.{IsDecimal, whole, pointed, IsNumber, decimal as plain_number, suffixed}
use Rattle.expr_parser.specs.Calls.{greatest_number}
use Rattle.expr_parser.proofs.Lists.{one_digit, digits_snoc, are_one, are_snoc}

digit_byte : (d : ℕ) → d < 10 → is_digit (48 + d) ≡ true
digit_byte d h = grind (arith, nat_tests)

-- digits of a number, at least one
pub record Decimal (n : ℕ) (t : List ℕ) : Type 0 where
  pub first : ℕ
  pub rest : List ℕ
  pub is : t ≡ first ∷ rest
  pub value : Digits 0 (first ∷ rest) n
  pub digits : AreDigits (first ∷ rest)

short : (n : ℕ) → n < 10 → Decimal n ((48 + n) ∷ [])
short n h =
    let e : 0 * 10 + (48 + n - 48) ≡ n = omega arith in
    record {
      first = 48 + n;
      rest = [];
      is = refl;
      value = subst (λ (v : ℕ). Digits 0 ((48 + n) ∷ []) v) e (one_digit (48 + n) (digit_byte n h));
      digits = are_one (48 + n) (digit_byte n h);
    }

longer : (n : ℕ) (ds : List ℕ) → 10 ≤ n → Decimal (n / 10) ds → Decimal n (ds ++ (48 + n % 10) ∷ [])
longer n ds h w =
    let d : n % 10 < 10 = omega arith in
    let e : n / 10 * 10 + (48 + n % 10 - 48) ≡ n = omega arith in
    record {
      first = w.first;
      rest = w.rest ++ (48 + n % 10) ∷ [];
      is = ap (λ (r : List ℕ). r ++ (48 + n % 10) ∷ []) w.is;
      value = subst (λ (v : ℕ). Digits 0 (w.first ∷ (w.rest ++ (48 + n % 10) ∷ [])) v) e (digits_snoc (w.first ∷ w.rest) (48 + n % 10) 0 (n / 10) w.value (digit_byte (n % 10) d));
      digits = are_snoc (w.first ∷ w.rest) (48 + n % 10) w.digits (digit_byte (n % 10) d);
    }

pub decimal_is : (n : ℕ) → n < 10 ^ 64 → Decimal n (decimal n)
decimal_is = decimal_by_steps_wide Decimal short longer

-- ---- written numbers

digit_at_byte : (n power : ℕ) → is_digit (digit_at n power) ≡ true
digit_at_byte n power = let d : n / power % 10 < 10 = omega arith in digit_byte (n / power % 10) d

six_digits : (n : ℕ) → AreDigits (last_six_digits n)
unfolding AreDigits
six_digits n = (digit_at_byte n 100000, (digit_at_byte n 10000, (digit_at_byte n 1000, (digit_at_byte n 100, (digit_at_byte n 10, (digit_at_byte n 1, tt))))))

cut_at : (b : Bool) (c : ℕ) (cs : List ℕ) → is_digit c ≡ true → AreDigits cs → AreDigits (if b then [] else c ∷ cs)
unfolding AreDigits
cut_at true c cs h a = tt
cut_at false c cs h a = (h, a)

cut_digits : (ds : List ℕ) → AreDigits ds → AreDigits (without_last_zeros ds)
unfolding AreDigits
cut_digits [] h = tt
cut_digits (c ∷ cs) h = cut_at (list_all (λ d. d == 48) (c ∷ cs)) c (without_last_zeros cs) h.0 (cut_digits cs h.1)

some_left : (f : ℕ) → f < 1000000 → (f == 0) ≡ false → 0 < length (without_last_zeros (last_six_digits f))
some_left f h e = left (without_last_zeros (last_six_digits f)) (length-without_last_zeros (last_six_digits f)) (value-without_last_zeros 1 (last_six_digits f) ∙ six_write 1 f h)
  where
    left : (ds : List ℕ) → length ds ≤ 6 → digits_after 1 ds * 10 ^ (6 - length ds) ≡ 1 * 1000000 + f → 0 < length ds
    left [] few v = let z : f ≡ 0 = omega (arith, v) in absurd (let g = rw z at e in cc)
    left (c ∷ cs) few v = omega arith

by_fraction : (none : Bool) (w : ℕ) (t ds : List ℕ) → Decimal w t → AreDigits ds → (none ≡ false → 0 < length ds) → IsDecimal (if none then t else t ++ codes "." ++ ds)
by_fraction true w t ds d a some = subst IsDecimal (sym d.is) (whole d.first d.rest d.digits)
by_fraction false w t [] d a some = absurd (let z = some refl in omega (arith, z))
by_fraction false w t (c ∷ cs) d a some =
    pointed d.first c d.rest cs d.digits a (append_assoc t (46 ∷ []) (c ∷ cs) ∙ ap (λ (u : List ℕ). u ++ 46 ∷ c ∷ cs) d.is)

pub is_decimal : (n : ℕ) → n ≤ greatest_number → IsDecimal (written (pos n))
unfolding written
is_decimal n h =
    let f : n % 1000000 < 1000000 = omega arith in
    let w : n / 1000000 < 10 ^ 64 = omega (arith, h) in
    by_fraction (n % 1000000 == 0) (n / 1000000) (decimal (n / 1000000)) (without_last_zeros (last_six_digits (n % 1000000))) (decimal_is (n / 1000000) w)
    (cut_digits (last_six_digits (n % 1000000)) (six_digits (n % 1000000))) (some_left (n % 1000000) f)

-- a constant is written as a number
pub constant_again : (n : ℕ) → n ≤ greatest_number → IsNumber greatest_number (written (pos n)) n
constant_again n h = plain_number (is_decimal n h) (ap (option_map unsigned_abs) (written_is_read (pos n) h)) h

pub number_fits : {most : ℕ} {t : List ℕ} {n : ℕ} → IsNumber most t n → n ≤ most
number_fits (plain_number d e h) = h
number_fits (suffixed u b m f d e s k p q t) = q
