-- Laws of the digits that are written.
use Rattle.std.proofs.Common.{◌≡◌, ℕ, zero, suc, ◌+◌, ◌-◌, ◌*◌, ◌/◌, ◌%◌, ◌^◌, ◌<◌, ◌≤◌, Bool, true, false, ◌&&◌, ◌==◌, List, [], ◌∷◌, length, cond, refl, sym, arith, length-append}
use Rattle.std.specs.Char.{is_ascii_digit}
use Rattle.std.specs.Fmt.{decimal}
use Rattle.std.specs.List.{list_all}
use Rattle.std.specs.Str.{IsAscii}
use Rattle.std.proofs.lemmas.Bool.{eqb-true}
use Rattle.std.proofs.lemmas.Bool.Decides.{nat_tests}
use Rattle.std.proofs.lemmas.Fmt.{decimal_by_steps_wide}
use Rattle.std.proofs.Math.Nat.{pow-suc}
use Rattle.std.proofs.lemmas.Grind.{common_steps}
use Rattle.zbx_types.specs.Digits.{last_six_digits}
use Rattle.zbx_types.specs.Numerals.{digits_after, all_digits}
use Rattle.zbx_types.specs.Written.{without_last_zeros}
use Rattle.zbx_types.proofs.NumeralLemmas.{digit_front, all_digits-append, digits_after-append}

-- digits that write a number
pub record Writes (n : ℕ) (ds : List ℕ) : Type 0 where
  pub digits : all_digits ds ≡ true
  pub value : digits_after 0 ds ≡ n
  pub some : 0 < length ds

is_digit : (d : ℕ) → d < 10 → is_ascii_digit (48 + d) ≡ true
is_digit d h = grind (arith, common_steps, nat_tests)

one_digit : (n : ℕ) → n < 10 → all_digits ((48 + n) ∷ []) ≡ true
one_digit n h = rw (is_digit n h) refl

pub decimal-writes : (n : ℕ) → n < 10 ^ 64 → Writes n (decimal n)
decimal-writes = decimal_by_steps_wide Writes
    (λ n h. record { digits = one_digit n h; value = omega arith; some = omega arith })
    (λ n ds h w. record {
      digits = all_digits-append ds ((48 + n % 10) ∷ []) w.digits (one_digit (n % 10) (omega arith));
      value = rw (digits_after-append 0 ds ((48 + n % 10) ∷ []), w.value) (omega arith);
      some = simp length-append (omega (arith, w.some));
    })

-- digits are ASCII
pub ascii_digits : (ds : List ℕ) → all_digits ds ≡ true → IsAscii ds
ascii_digits [] h i = omega arith
ascii_digits (c ∷ cs) h zero = low c (digit_front c cs h).0
  where
    low : (c : ℕ) → is_ascii_digit c ≡ true → c < 128
    low c h = grind (arith, common_steps, nat_tests)
ascii_digits (c ∷ cs) h (suc i) = ascii_digits cs (digit_front c cs h).1 i

-- the last six digits
pub six_are_digits : (n : ℕ) → all_digits (last_six_digits n) ≡ true
six_are_digits n =
    rw (
      is_digit (n / 100000 % 10) (omega arith),
      is_digit (n / 10000 % 10) (omega arith),
      is_digit (n / 1000 % 10) (omega arith),
      is_digit (n / 100 % 10) (omega arith),
      is_digit (n / 10 % 10) (omega arith),
      is_digit (n / 1 % 10) (omega arith),
    ) refl

pub six_write : (w f : ℕ) → f < 1000000 → digits_after w (last_six_digits f) ≡ w * 1000000 + f
six_write w f h = omega arith

-- zeros at the end
zero_front : (c : ℕ) (cs : List ℕ) → list_all (λ d. d == 48) (c ∷ cs) ≡ true → (c ≡ 48) × (list_all (λ d. d == 48) cs ≡ true)
zero_front c cs h = both (c == 48) (list_all (λ d. d == 48) cs) (eqb-true c 48) h
  where
    both : (a b : Bool) → (a ≡ true → c ≡ 48) → (a && b) ≡ true → (c ≡ 48) × (b ≡ true)
    both true b e h = (e refl, h)
    both false b e h = cc

zeros_write : (n : ℕ) (ds : List ℕ) → list_all (λ d. d == 48) ds ≡ true → digits_after n ds ≡ n * 10 ^ length ds
zeros_write n [] h = omega arith
zeros_write n (c ∷ cs) h =
    let tests = zero_front c cs h in
    rw (tests.0, zeros_write (n * 10 + 0) cs tests.1, pow-suc) (omega arith)

pub length-without_last_zeros : (ds : List ℕ) → length (without_last_zeros ds) ≤ length ds
length-without_last_zeros [] = omega arith
length-without_last_zeros (c ∷ cs) = cases (list_all (λ d. d == 48) (c ∷ cs)) (length-without_last_zeros cs)
  where
    cases : (b : Bool) → length (without_last_zeros cs) ≤ length cs → length (cond b [] (c ∷ without_last_zeros cs)) ≤ suc (length cs)
    cases true less = omega arith
    cases false less = omega (arith, less)

pub digits-without_last_zeros : (ds : List ℕ) → all_digits ds ≡ true → all_digits (without_last_zeros ds) ≡ true
digits-without_last_zeros [] h = refl
digits-without_last_zeros (c ∷ cs) h =
    let tests = digit_front c cs h in
    cases (list_all (λ d. d == 48) (c ∷ cs)) tests.0 (digits-without_last_zeros cs tests.1)
  where
    cases : (b : Bool) → is_ascii_digit c ≡ true → all_digits (without_last_zeros cs) ≡ true → all_digits (cond b [] (c ∷ without_last_zeros cs)) ≡ true
    cases true first more = refl
    cases false first more = rw (first, more) refl

-- zeros at the end count as a power of ten
pub value-without_last_zeros : (n : ℕ) (ds : List ℕ) → digits_after n (without_last_zeros ds) * 10 ^ (length ds - length (without_last_zeros ds)) ≡ digits_after n ds
value-without_last_zeros n [] = omega arith
value-without_last_zeros n (c ∷ cs) =
    cases (list_all (λ d. d == 48) (c ∷ cs)) refl (value-without_last_zeros (n * 10 + (c - 48)) cs)
  where
    cases : (b : Bool) → list_all (λ d. d == 48) (c ∷ cs) ≡ b
        → digits_after (n * 10 + (c - 48)) (without_last_zeros cs) * 10 ^ (length cs - length (without_last_zeros cs)) ≡ digits_after (n * 10 + (c - 48)) cs
        → digits_after n (cond b [] (c ∷ without_last_zeros cs)) * 10 ^ (suc (length cs) - length (cond b [] (c ∷ without_last_zeros cs))) ≡ digits_after n (c ∷ cs)
    cases true zeros more =
        let all : suc (length cs) - 0 ≡ suc (length cs) = omega arith in
        rw all (sym (zeros_write n (c ∷ cs) zeros))
    cases false zeros more =
        let less : suc (length cs) - suc (length (without_last_zeros cs)) ≡ length cs - length (without_last_zeros cs) = omega arith in
        rw less more
