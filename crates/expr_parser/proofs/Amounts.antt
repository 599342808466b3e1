-- The values of decimals.
use Rattle.std.proofs.Common.{◌≡◌, ℕ, zero, suc, ◌+◌, ◌-◌, ◌*◌, ◌/◌, ◌^◌, ◌≤◌, ◌<◌, List, [], ◌∷◌, ◌++◌, length, take, drop, refl, ap, sym, ◌∙◌, Bool, true, false, nat_le, ◌==◌, arith, Option, Some, None, inl, inr, if◌then◌else◌, subst, option_map, unsigned_abs, pos, append-nil, append_assoc}
use Rattle.std.proofs.lemmas.Bool.Decides.{nat_tests}
use Rattle.std.specs.Char.{is_ascii_digit}
use Rattle.std.specs.List.{prefix_len}
use Rattle.zbx_types.specs.Numerals.{Numeral, read_number, numeral_of, unsigned_of, pointed_of, numeral_with, exponent_of, value_of, magnitude, digits_after, front_digits, behind_digits}
use Rattle.byte_grammar.specs.Bytes.{is_digit}
use Rattle.expr_parser.specs.Bytes.{AreDigits}
use Rattle.expr_parser.specs.Numbers.{is_at_most, millionths}
use native.Mathlib.Nat.{le-div_iff_mul-le, div-mul-le_self, le_trans, le_of_eq, pow-suc, mul-div-mul_right}
use Rattle.expr_parser.proofs.Lists.{le_test, le_true, are_snoc, digit_bounds, way, some_is, none_some}

-- the millionths that these digits before and behind the point write, cut
abbrev pub amount : List ℕ → List ℕ → ℕ
amount w ds = digits_after 0 (w ++ ds) * 1000000 / 10 ^ length ds

-- in the range of numbers
abbrev pub capped : ℕ → Option ℕ
capped n = if nat_le n 1000000000000000000000000000000 then Some n else None

digit_is : (b : ℕ) → is_digit b ≡ true → is_ascii_digit b ≡ true
digit_is b h = grind (arith, nat_tests)

prefix_all : (w : List ℕ) → AreDigits w → prefix_len is_ascii_digit w ≡ length w
unfolding AreDigits
prefix_all [] h = refl
prefix_all (b ∷ w) h = rw (digit_is b h.0) (let e = prefix_all w h.1 in omega arith)

prefix_point : (w ds : List ℕ) → AreDigits w → prefix_len is_ascii_digit (w ++ 46 ∷ ds) ≡ length w
unfolding AreDigits
prefix_point [] ds h = refl
prefix_point (b ∷ w) ds h = rw (digit_is b h.0) (let e = prefix_point w ds h.1 in omega arith)

take_front : (w r : List ℕ) → take (length w) (w ++ r) ≡ w
take_front [] r = refl
take_front (b ∷ w) r = ap (λ (v : List ℕ). b ∷ v) (take_front w r)

drop_front : (w r : List ℕ) → drop (length w) (w ++ r) ≡ r
drop_front [] r = refl
drop_front (b ∷ w) r = drop_front w r

take_whole : (w : List ℕ) → take (length w) w ≡ w
take_whole [] = refl
take_whole (b ∷ w) = ap (λ (v : List ℕ). b ∷ v) (take_whole w)

drop_whole : (w : List ℕ) → drop (length w) w ≡ []
drop_whole [] = refl
drop_whole (b ∷ w) = drop_whole w

abbrev pub numeral : List ℕ → List ℕ → Numeral
numeral w ds = record { negative = false; whole = w; decimals = ds; up = 0; down = 0 }

with_nothing : (b : ℕ) (w ds : List ℕ) → numeral_with false (b ∷ w) ds [] ≡ Some (numeral (b ∷ w) ds)
unfolding numeral_with exponent_of
with_nothing b w ds = rw (not_zero (length w) (length ds)) refl
  where
    not_zero : (m n : ℕ) → (suc m + n == 0) ≡ false
    not_zero m n = grind (arith, nat_tests)

zero_more : (n : ℕ) → 0 + n ≡ n
zero_more n = omega arith

pub value_is : (w ds : List ℕ) → option_map unsigned_abs (value_of (numeral w ds)) ≡ capped (amount w ds)
unfolding value_of magnitude
value_is w ds = rw (zero_more (length ds)) (at (nat_le (amount w ds) 1000000000000000000000000000000))
  where
    at : (c : Bool) → option_map unsigned_abs (if c then Some (pos (amount w ds)) else None) ≡ (if c then Some (amount w ds) else None)
    at true = refl
    at false = refl

front_whole : (w : List ℕ) → AreDigits w → front_digits w ≡ w
front_whole w h = ap (λ (n : ℕ). take n w) (prefix_all w h) ∙ take_whole w

behind_whole : (w : List ℕ) → AreDigits w → behind_digits w ≡ []
behind_whole w h = ap (λ (n : ℕ). drop n w) (prefix_all w h) ∙ drop_whole w

front_point : (w ds : List ℕ) → AreDigits w → front_digits (w ++ 46 ∷ ds) ≡ w
front_point w ds h = ap (λ (n : ℕ). take n (w ++ 46 ∷ ds)) (prefix_point w ds h) ∙ take_front w (46 ∷ ds)

behind_point : (w ds : List ℕ) → AreDigits w → behind_digits (w ++ 46 ∷ ds) ≡ 46 ∷ ds
behind_point w ds h = ap (λ (n : ℕ). drop n (w ++ 46 ∷ ds)) (prefix_point w ds h) ∙ drop_front w (46 ∷ ds)

digit_not : (b : ℕ) → is_digit b ≡ true → ((b == 45) ≡ false) × ((b == 43) ≡ false)
digit_not b h = let r = digit_bounds b h in (grind (arith, nat_tests), grind (arith, nat_tests))

numeral_whole : (b : ℕ) (bs : List ℕ) → AreDigits (b ∷ bs) → numeral_of (b ∷ bs) ≡ Some (numeral (b ∷ bs) [])
unfolding numeral_of unsigned_of pointed_of AreDigits
numeral_whole b bs h =
    let n = digit_not b h.0 in
    rw (n.0, n.1) (ap (λ (w : List ℕ). pointed_of false w (behind_digits (b ∷ bs))) (front_whole (b ∷ bs) h) ∙ ap (λ (r : List ℕ). pointed_of false (b ∷ bs) r) (behind_whole (b ∷ bs) h) ∙ with_nothing b bs [])

numeral_point : (b : ℕ) (bs ds : List ℕ) → AreDigits (b ∷ bs) → AreDigits ds → numeral_of ((b ∷ bs) ++ 46 ∷ ds) ≡ Some (numeral (b ∷ bs) ds)
unfolding numeral_of unsigned_of pointed_of AreDigits
numeral_point b bs ds h g =
    let n = digit_not b h.0 in
    rw (n.0, n.1) (ap (λ (w : List ℕ). pointed_of false w (behind_digits ((b ∷ bs) ++ 46 ∷ ds))) (front_point (b ∷ bs) ds h) ∙ ap (λ (r : List ℕ). pointed_of false (b ∷ bs) r) (behind_point (b ∷ bs) ds h)
    ∙ ap (λ (w : List ℕ). numeral_with false (b ∷ bs) w (behind_digits ds)) (front_whole ds g) ∙ ap (λ (r : List ℕ). numeral_with false (b ∷ bs) ds r) (behind_whole ds g) ∙ with_nothing b bs ds)

pub whole_is : (b : ℕ) (bs : List ℕ) → AreDigits (b ∷ bs) → millionths (b ∷ bs) ≡ capped (amount (b ∷ bs) [])
unfolding read_number
whole_is b bs h = rw (numeral_whole b bs h) (value_is (b ∷ bs) [])

pub point_is : (b : ℕ) (bs ds : List ℕ) → AreDigits (b ∷ bs) → AreDigits ds → millionths ((b ∷ bs) ++ 46 ∷ ds) ≡ capped (amount (b ∷ bs) ds)
unfolding read_number
point_is b bs ds h g = rw (numeral_point b bs ds h g) (value_is (b ∷ bs) ds)

-- ---- more digits write more

after_append : (a b : List ℕ) (n : ℕ) → digits_after n (a ++ b) ≡ digits_after (digits_after n a) b
after_append [] b n = refl
after_append (x ∷ a) b n = after_append a b (n * 10 + (x - 48))

length_snoc : (a : List ℕ) (b : ℕ) → length (a ++ b ∷ []) ≡ suc (length a)
length_snoc [] b = refl
length_snoc (x ∷ a) b = ap (λ (n : ℕ). suc n) (length_snoc a b)

div_le : (a b c : ℕ) → a ≤ b → 0 < c → a / c ≤ b / c
div_le a b c h p = (le-div_iff_mul-le p).1 (le_trans (div-mul-le_self a c) h)

ten_pos : (n : ℕ) → 0 < 10 ^ n
ten_pos n = pow_at_least_one n
  where
    pow_at_least_one : (n : ℕ) → 0 < 10 ^ n
    pow_at_least_one zero = omega arith
    pow_at_least_one (suc n) = rw (pow-suc 10 n) (let e = pow_at_least_one n in omega arith)

snoc_value : (w ds : List ℕ) (d : ℕ) → digits_after 0 (w ++ (ds ++ d ∷ [])) ≡ digits_after 0 (w ++ ds) * 10 + (d - 48)
snoc_value w ds d = ap (λ (v : List ℕ). digits_after 0 v) (sym (append_assoc w ds (d ∷ []))) ∙ after_append (w ++ ds) (d ∷ []) 0

pub whole_more : (w : List ℕ) (d : ℕ) → amount w [] ≤ amount (w ++ d ∷ []) []
whole_more w d =
    let e : digits_after 0 ((w ++ d ∷ []) ++ []) ≡ digits_after 0 (w ++ []) * 10 + (d - 48) = ap (λ (v : List ℕ). digits_after 0 v) (append-nil (w ++ d ∷ [])) ∙ after_append w (d ∷ []) 0 ∙ ap (λ (v : List ℕ). digits_after 0 v * 10 + (d - 48)) (sym (append-nil w)) in
    rw e (div_le (digits_after 0 (w ++ []) * 1000000) ((digits_after 0 (w ++ []) * 10 + (d - 48)) * 1000000) 1 (omega arith) (omega arith))

pub point_more : (w ds : List ℕ) (d : ℕ) → amount w ds ≤ amount w (ds ++ d ∷ [])
point_more w ds d =
    let D : ℕ = digits_after 0 (w ++ ds) in
    rw (snoc_value w ds d, length_snoc ds d, pow-suc 10 (length ds))
    (subst (λ (q : ℕ). q ≤ (digits_after 0 (w ++ ds) * 10 + (d - 48)) * 1000000 / (10 ^ length ds * 10)) (mul-div-mul_right {m = 10} (digits_after 0 (w ++ ds) * 1000000) (10 ^ length ds) (omega arith))
    (div_le (digits_after 0 (w ++ ds) * 1000000 * 10) ((digits_after 0 (w ++ ds) * 10 + (d - 48)) * 1000000) (10 ^ length ds * 10) (omega arith) (let e = ten_pos (length ds) in omega arith)))

pub point_zero : (w : List ℕ) → amount w (48 ∷ []) ≡ amount w []
point_zero w =
    let e : digits_after 0 (w ++ 48 ∷ []) ≡ digits_after 0 (w ++ []) * 10 + 0 = snoc_value w [] 48 in
    rw e (omega arith)

-- ---- so what begins a number in range is in range

pub capped_some : (m n : ℕ) → capped m ≡ Some n → (m ≡ n) × (m ≤ 1000000000000000000000000000000)
capped_some m n h = elim (way (nat_le m 1000000000000000000000000000000) (Some m) None (Some n) h) [ inl z ↦ (some_is m n z.1, le_true _ _ z.0) | inr z ↦ none_some n z.1 ]

pub capped_is : (m : ℕ) → m ≤ 1000000000000000000000000000000 → capped m ≡ Some m
capped_is m h = rw (le_test m 1000000000000000000000000000000 h) refl

-- a number is there and at most so great
pub record Bounded (most : ℕ) (o : Option ℕ) : Type 0 where
  pub n : ℕ
  pub is : o ≡ Some n
  pub small : n ≤ most

pub bounded_test : (most : ℕ) (o : Option ℕ) → Bounded most o → is_at_most most o ≡ true
bounded_test most o h = rw h.is (le_test h.n most h.small)

pub test_bounded : (most : ℕ) (o : Option ℕ) → is_at_most most o ≡ true → Bounded most o
test_bounded most None h = absurd cc
test_bounded most (Some n) h = record { n = n; is = refl; small = le_true n most h }

less_bounded : (most a b : ℕ) (o p : Option ℕ) → o ≡ capped a → p ≡ capped b → a ≤ b → Bounded most p → Bounded most o
less_bounded most a b o p e f h g =
    let r = capped_some b g.n (sym f ∙ g.is) in
    let s = g.small in
    record { n = a; is = e ∙ capped_is a (omega arith); small = omega arith }

pub bounded_front : (most b : ℕ) (bs : List ℕ) (d : ℕ) → AreDigits (b ∷ bs) → is_digit d ≡ true → Bounded most (millionths ((b ∷ bs) ++ d ∷ [])) → Bounded most (millionths (b ∷ bs))
bounded_front most b bs d h g r = less_bounded most (amount (b ∷ bs) []) (amount (b ∷ (bs ++ d ∷ [])) []) _ _ (whole_is b bs h) (whole_is b (bs ++ d ∷ []) (are_snoc (b ∷ bs) d h g)) (whole_more (b ∷ bs) d) r

pub bounded_point : (most b : ℕ) (bs ds : List ℕ) (d : ℕ) → AreDigits (b ∷ bs) → AreDigits ds → is_digit d ≡ true → Bounded most (millionths ((b ∷ bs) ++ 46 ∷ (ds ++ d ∷ []))) → Bounded most (millionths ((b ∷ bs) ++ 46 ∷ ds))
bounded_point most b bs ds d h k g r = less_bounded most (amount (b ∷ bs) ds) (amount (b ∷ bs) (ds ++ d ∷ [])) _ _ (point_is b bs ds h k) (point_is b bs (ds ++ d ∷ []) h (are_snoc ds d k g)) (point_more (b ∷ bs) ds d) r

-- a point alone changes nothing, nor does a zero behind it
pub bounded_whole : (most b : ℕ) (bs : List ℕ) → AreDigits (b ∷ bs) → Bounded most (millionths ((b ∷ bs) ++ 46 ∷ [])) → Bounded most (millionths (b ∷ bs))
unfolding AreDigits
bounded_whole most b bs h r = less_bounded most (amount (b ∷ bs) []) (amount (b ∷ bs) []) _ _ (whole_is b bs h) (point_is b bs [] h tt) (omega arith) r

pub bounded_zero : (most b : ℕ) (bs : List ℕ) → AreDigits (b ∷ bs) → Bounded most (millionths (b ∷ bs)) → Bounded most (millionths ((b ∷ bs) ++ 46 ∷ 48 ∷ []))
unfolding AreDigits
bounded_zero most b bs h r = less_bounded most (amount (b ∷ bs) (48 ∷ [])) (amount (b ∷ bs) []) _ _ (point_is b bs (48 ∷ []) h (refl, tt)) (whole_is b bs h) (le_of_eq (point_zero (b ∷ bs))) r
