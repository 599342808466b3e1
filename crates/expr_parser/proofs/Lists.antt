-- Lists, bytes and points.
use Rattle.std.proofs.Common.{◌≡◌, ℕ, zero, suc, ◌+◌, ◌-◌, ◌*◌, ◌≤◌, ◌<◌, List, [], ◌∷◌, ◌++◌, length, refl, ap, sym, ◌∙◌, Bool, true, false, nat_le, nat_lt, ◌==◌, arith, Some, None, inl, inr, ◌⊎◌, if◌then◌else◌, append_assoc}
use Rattle.std.proofs.lemmas.Bool.Decides.{nat_tests}
use Rattle.byte_grammar.specs.Bytes.{is_digit}
use Rattle.expr_parser.specs.Bytes.{is_blank, is_gap, ends_word, AreBlanks, AreDigits, Digits, first_byte, Point, one_less, behind}

-- one byte moves to the front
pub snoc : (q : List ℕ) (b : ℕ) (r : List ℕ) → q ++ b ∷ r ≡ (q ++ b ∷ []) ++ r
snoc q b r = sym (append_assoc q (b ∷ []) r)

pub behind_append : (p : Point) (a b : List ℕ) → behind p (a ++ b) ≡ behind (behind p a) b
unfolding behind
behind_append p [] b = refl
behind_append p (x ∷ a) b = behind_append (record { held = one_less p.held; last = x }) a b

pub behind_nothing : (p : Point) → behind p [] ≡ p
unfolding behind
behind_nothing p = refl

pub behind_one : (p : Point) (b : ℕ) → behind p (b ∷ []) ≡ record { held = one_less p.held; last = b }
unfolding behind
behind_one p b = refl

pub behind_first : (p : Point) (b : ℕ) (bs : List ℕ) → behind p (b ∷ bs) ≡ behind (record { held = one_less p.held; last = b }) bs
unfolding behind
behind_first p b bs = refl

pub less_one : (n : ℕ) → one_less n ≡ n - 1
less_one zero = omega arith
less_one (suc n) = omega arith

pub held_behind : (p : Point) (a : List ℕ) → (behind p a).held ≡ p.held - length a
unfolding behind
held_behind p [] = omega arith
held_behind p (x ∷ a) = let e = held_behind (record { held = one_less p.held; last = x }) a in let f = less_one p.held in omega arith

-- the last byte of a text that ends with it
pub last_snoc : (p : Point) (a : List ℕ) (b : ℕ) → (behind p (a ++ b ∷ [])).last ≡ b
last_snoc p a b = ap (λ (q : Point). q.last) (behind_append p a (b ∷ []) ∙ behind_one (behind p a) b)

-- which way a test went
pub way : {A : Type 0} (c : Bool) (a b s : A) → (if c then a else b) ≡ s → ((c ≡ true) × (a ≡ s)) ⊎ ((c ≡ false) × (b ≡ s))
way {A} true a b s h = inl (refl, h)
way {A} false a b s h = inr (refl, h)

pub either_way : (c : Bool) → (c ≡ true) ⊎ (c ≡ false)
either_way true = inl refl
either_way false = inr refl

pub eq_true : (a b : ℕ) → (a == b) ≡ true → a ≡ b
eq_true a b h = grind (arith, nat_tests)

pub le_test : (a b : ℕ) → a ≤ b → nat_le a b ≡ true
le_test a b h = grind (arith, nat_tests)

pub lt_test : (a b : ℕ) → a < b → nat_lt a b ≡ true
lt_test a b h = grind (arith, nat_tests)

pub le_true : (a b : ℕ) → nat_le a b ≡ true → a ≤ b
le_true a b h = grind (arith, nat_tests)

pub lt_true : (a b : ℕ) → nat_lt a b ≡ true → a < b
lt_true a b h = grind (arith, nat_tests)

pub le_false : (a b : ℕ) → nat_le a b ≡ false → b < a
le_false a b h = grind (arith, nat_tests)

pub lt_false : (a b : ℕ) → nat_lt a b ≡ false → b ≤ a
lt_false a b h = grind (arith, nat_tests)

pub some_is : {A : Type 0} (a b : A) → Some a ≡ Some b → a ≡ b
some_is {A} a b h = cc

pub none_some : {A B : Type 0} (s : B) → None ≡ Some s → A
none_some {A} {B} s h = absurd cc

pub blanks_append : (a b : List ℕ) → AreBlanks a → AreBlanks b → AreBlanks (a ++ b)
unfolding AreBlanks
blanks_append [] b h g = g
blanks_append (x ∷ a) b h g = (h.0, blanks_append a b h.1 g)

pub one_blank : (b : ℕ) → is_blank b ≡ true → AreBlanks (b ∷ [])
unfolding AreBlanks
one_blank b h = (h, tt)

pub no_blanks : AreBlanks []
unfolding AreBlanks
no_blanks = tt

pub more_blanks : (b : ℕ) (x : List ℕ) → is_blank b ≡ true → AreBlanks x → AreBlanks (b ∷ x)
unfolding AreBlanks
more_blanks b x h a = (h, a)

pub blank_first : (b : ℕ) (x : List ℕ) → AreBlanks (b ∷ x) → is_blank b ≡ true
unfolding AreBlanks
blank_first b x a = a.0

pub blank_rest : (b : ℕ) (x : List ℕ) → AreBlanks (b ∷ x) → AreBlanks x
unfolding AreBlanks
blank_rest b x a = a.1

pub digit_bounds : (b : ℕ) → is_digit b ≡ true → (48 ≤ b) × (b ≤ 57)
digit_bounds b h = grind (arith, nat_tests)

pub digit_le : (b : ℕ) → is_digit b ≡ true → nat_le b 57 ≡ true
digit_le b h = let r = digit_bounds b h in le_test b 57 r.1

pub digit_ge : (b : ℕ) → is_digit b ≡ true → nat_le 48 b ≡ true
digit_ge b h = let r = digit_bounds b h in le_test 48 b r.0

pub blank_no_digit : (b : ℕ) → is_blank b ≡ true → is_digit b ≡ false
blank_no_digit b h = grind (arith, nat_tests)

pub digit_no_blank : (b : ℕ) → is_digit b ≡ true → is_blank b ≡ false
digit_no_blank b h = grind (arith, nat_tests)

pub blank_gap : (b : ℕ) → is_blank b ≡ true → is_gap b ≡ true
blank_gap b h = grind (arith, nat_tests)

pub blank_ends : (b : ℕ) → is_blank b ≡ true → ends_word b ≡ true
blank_ends b h = grind (arith, nat_tests)

pub blank_or_open : (b : ℕ) → ends_word b ≡ true → (is_blank b ≡ true) ⊎ (b ≡ 40)
blank_or_open b h = grind (arith, nat_tests)

-- a gap behind blanks, behind a gap
pub gap_behind : (p : Point) (y : List ℕ) → AreBlanks y → is_gap p.last ≡ true → is_gap (behind p y).last ≡ true
unfolding behind AreBlanks
gap_behind p [] a h = h
gap_behind p (b ∷ y) a h = gap_behind (record { held = one_less p.held; last = b }) y a.1 (blank_gap b a.0)

-- a byte with which an operand begins
abbrev pub IsFirst : ℕ → Type 0
IsFirst b = (0 < b) × (is_blank b ≡ false) × ((b == 61) ≡ false) × ((b == 62) ≡ false)

pub first_kept : (t r : List ℕ) → 0 < first_byte t → first_byte (t ++ r) ≡ first_byte t
first_kept [] r h = absurd (omega arith)
first_kept (b ∷ t) r h = refl

pub first_more : (t r : List ℕ) → 0 < first_byte t → 0 < first_byte (t ++ r)
first_more [] r h = absurd (omega arith)
first_more (b ∷ t) r h = h

pub digit_first : (b : ℕ) → is_digit b ≡ true → IsFirst b
digit_first b h = let r = digit_bounds b h in (omega arith, digit_no_blank b h, grind (arith, nat_tests), grind (arith, nat_tests))

pub digits_le : (bs : List ℕ) (v n : ℕ) → Digits v bs n → v ≤ n
unfolding Digits
digits_le [] v n h = omega arith
digits_le (b ∷ bs) v n h = let r = digits_le bs (v * 10 + (b - 48)) n h.1 in omega arith

pub digits_snoc : (a : List ℕ) (b v n : ℕ) → Digits v a n → is_digit b ≡ true → Digits v (a ++ b ∷ []) (n * 10 + (b - 48))
unfolding Digits
digits_snoc [] b v n h g = (g, ap (λ (m : ℕ). m * 10 + (b - 48)) h)
digits_snoc (x ∷ a) b v n h g = (h.0, digits_snoc a b (v * 10 + (x - 48)) n h.1 g)

pub one_digit : (b : ℕ) → is_digit b ≡ true → Digits 0 (b ∷ []) (0 * 10 + (b - 48))
unfolding Digits
one_digit b h = (h, refl)

pub are_snoc : (a : List ℕ) (b : ℕ) → AreDigits a → is_digit b ≡ true → AreDigits (a ++ b ∷ [])
unfolding AreDigits
are_snoc [] b h g = (g, tt)
are_snoc (x ∷ a) b h g = (h.0, are_snoc a b h.1 g)

pub are_one : (b : ℕ) → is_digit b ≡ true → AreDigits (b ∷ [])
unfolding AreDigits
are_one b h = (h, tt)
