-- What the grammar says is a number, the machine takes.
use Rattle.std.proofs.Common.{◌≡◌, ℕ, ◌==◌, List, [], ◌∷◌, ◌++◌, refl, ap, sym, ◌∙◌, Option, Some, true, false, arith, append_assoc, append-nil}
use Rattle.std.proofs.lemmas.Bool.Decides.{nat_tests}
use Rattle.byte_grammar.specs.Bytes.{Each, is_digit, is_nonzero_digit, is_e}
use Rattle.json_text.specs.Bytes.{is_blank, is_sign, AreDigits}
use Rattle.json_text.specs.Grammar.{IsMinus, no_minus, minus, IsWhole, only_zero, whole, IsFraction, no_fraction, fraction, IsExponent, no_exponent, unsigned, signed, IsNumber}
use Rattle.json_text.specs.Tokens.{number_step, number_ends}
use Rattle.json_text.specs.Machine.{state, move, begun, after}
use Rattle.json_text.specs.declared.frame.Frame.{Frame}
use Rattle.json_text.specs.declared.place.Mode.{Mode}
use Rattle.json_text.specs.declared.place.Mode.TheVariants.{Number}
use Rattle.json_text.specs.declared.machine.State.{State}
use Rattle.json_text.specs.declared.number.InNumber.{InNumber}
use Rattle.json_text.specs.declared.number.InNumber.TheVariants.{Minus, Zero, Whole, Point, Fraction, Exponent, Signed, Digits}
use Rattle.json_text.proofs.Runs.{joined, stepped, no_step}

-- a place where a value may begin, on a stack
abbrev pub Begins : Mode → List Frame → List Frame → Type 0
Begins m k k' = (b : ℕ) → is_blank b ≡ false → (b == 93) ≡ false → move m k b ≡ begun k' b

abbrev pub in_number : InNumber → List ℕ → List Frame → Option State
in_number p s k = Some (state (Number p s) k)

number_go : (p q : InNumber) (s : List ℕ) (k : List Frame) (b : ℕ) (bs : List ℕ) → number_step p b ≡ Some q → after (in_number p s k) (b ∷ bs) ≡ after (in_number q (s ++ b ∷ []) k) bs
number_go p q s k b bs e = stepped (Number p s) k b bs (in_number q (s ++ b ∷ []) k) (rw e refl)

-- digits stay in a place
pub digits_run : (q : InNumber) → ((b : ℕ) → is_digit b ≡ true → number_step q b ≡ Some q) → (s bs : List ℕ) (k : List Frame) → AreDigits bs → after (in_number q s k) bs ≡ in_number q (s ++ bs) k
unfolding Each
digits_run q on s [] k a = no_step _ ∙ ap (λ (z : List ℕ). in_number q z k) (sym (append-nil s))
digits_run q on s (b ∷ bs) k a =
    number_go q q s k b bs (on b a.0) ∙ digits_run q on (s ++ b ∷ []) bs k a.1 ∙ ap (λ (z : List ℕ). in_number q z k) (append_assoc s (b ∷ []) bs)

whole_on : (b : ℕ) → is_digit b ≡ true → number_step Whole b ≡ Some Whole
whole_on b h = rw h refl

fraction_on : (b : ℕ) → is_digit b ≡ true → number_step Fraction b ≡ Some Fraction
fraction_on b h = rw h refl

digits_on : (b : ℕ) → is_digit b ≡ true → number_step Digits b ≡ Some Digits
digits_on b h = rw h refl

-- ---- the part before the point

-- a place behind the whole part
record AfterWhole (p : InNumber) : Type 0 where
  point : number_step p 46 ≡ Some Point
  exponent : (b : ℕ) → is_e b ≡ true → number_step p b ≡ Some Exponent
  ends : number_ends p ≡ true

e_no_point : (b : ℕ) → is_e b ≡ true → (b == 46) ≡ false
e_no_point b h = grind (arith, nat_tests)

e_no_digit : (b : ℕ) → is_e b ≡ true → is_digit b ≡ false
e_no_digit b h = grind (arith, nat_tests)

after_zero : AfterWhole Zero
after_zero = record { point = refl; exponent = λ b h. rw (e_no_point b h, h) refl; ends = refl }

after_whole : AfterWhole Whole
after_whole = record { point = refl; exponent = λ b h. rw (e_no_digit b h, e_no_point b h, h) refl; ends = refl }

-- a run from where a value begins to such a place
abbrev ToWhole : Mode → List Frame → List Frame → List ℕ → Type 0
ToWhole m k k' t = (p : InNumber) × (after (Some (state m k)) t ≡ in_number p t k') × AfterWhole p

first_minus : (m : Mode) (k k' : List Frame) → Begins m k k' → move m k 45 ≡ in_number Minus (45 ∷ []) k'
first_minus m k k' on = on 45 refl refl

first_zero : (m : Mode) (k k' : List Frame) → Begins m k k' → move m k 48 ≡ in_number Zero (48 ∷ []) k'
first_zero m k k' on = on 48 refl refl

nonzero_begun : (k : List Frame) (b : ℕ) → is_nonzero_digit b ≡ true → begun k b ≡ in_number Whole (b ∷ []) k
nonzero_begun k b h =
    let d : is_digit b ≡ true = grind (arith, nat_tests) in
    let x1 : (b == 34) ≡ false = grind (arith, nat_tests) in
    let x2 : (b == 91) ≡ false = grind (arith, nat_tests) in
    let x3 : (b == 123) ≡ false = grind (arith, nat_tests) in
    let x4 : (b == 45) ≡ false = grind (arith, nat_tests) in
    let x5 : (b == 48) ≡ false = grind (arith, nat_tests) in
    rw (x1, x2, x3, x4, x5, d) refl

nonzero_no_blank : (b : ℕ) → is_nonzero_digit b ≡ true → is_blank b ≡ false
nonzero_no_blank b h = grind (arith, nat_tests)

nonzero_no_bracket : (b : ℕ) → is_nonzero_digit b ≡ true → (b == 93) ≡ false
nonzero_no_bracket b h = grind (arith, nat_tests)

first_whole : (m : Mode) (k k' : List Frame) (b : ℕ) → Begins m k k' → is_nonzero_digit b ≡ true → move m k b ≡ in_number Whole (b ∷ []) k'
first_whole m k k' b on h = on b (nonzero_no_blank b h) (nonzero_no_bracket b h) ∙ nonzero_begun k' b h

minus_whole : (b : ℕ) → is_nonzero_digit b ≡ true → number_step Minus b ≡ Some Whole
minus_whole b h =
    let d : is_digit b ≡ true = grind (arith, nat_tests) in
    let x : (b == 48) ≡ false = grind (arith, nat_tests) in
    rw (x, d) refl

to_whole : (m : Mode) (k k' : List Frame) {s w : List ℕ} → Begins m k k' → IsMinus s → IsWhole w → ToWhole m k k' (s ++ w)
to_whole m k k' on no_minus only_zero = (Zero, stepped m k 48 [] (in_number Zero (48 ∷ []) k') (first_zero m k k' on) ∙ no_step _, after_zero)
to_whole m k k' on no_minus (whole b bs h g) =
    (Whole, stepped m k b bs (in_number Whole (b ∷ []) k') (first_whole m k k' b on h) ∙ digits_run Whole whole_on (b ∷ []) bs k' g, after_whole)
to_whole m k k' on minus only_zero =
    (Zero, stepped m k 45 (48 ∷ []) (in_number Minus (45 ∷ []) k') (first_minus m k k' on) ∙ number_go Minus Zero (45 ∷ []) k' 48 [] refl ∙ no_step _, after_zero)
to_whole m k k' on minus (whole b bs h g) = (
  Whole,
  stepped m k 45 (b ∷ bs) (in_number Minus (45 ∷ []) k') (first_minus m k k' on) ∙ number_go Minus Whole (45 ∷ []) k' b bs (minus_whole b h)
      ∙ digits_run Whole whole_on (45 ∷ b ∷ []) bs k' g,
  after_whole,
)

-- ---- the part behind it

record AfterFraction (p : InNumber) : Type 0 where
  exponent : (b : ℕ) → is_e b ≡ true → number_step p b ≡ Some Exponent
  ends : number_ends p ≡ true

after_fraction : AfterFraction Fraction
after_fraction = record { exponent = λ b h. rw (e_no_digit b h, h) refl; ends = refl }

fraction_run : (p : InNumber) (s : List ℕ) (k : List Frame) {f : List ℕ} → AfterWhole p → IsFraction f → (q : InNumber) × (after (in_number p s k) f ≡ in_number q (s ++ f) k) × AfterFraction q
fraction_run p s k a no_fraction = (p, no_step _ ∙ ap (λ (z : List ℕ). in_number p z k) (sym (append-nil s)), record { exponent = a.exponent; ends = a.ends })
fraction_run p s k a (fraction b bs h g) = (
  Fraction,
  number_go p Point s k 46 (b ∷ bs) a.point ∙ number_go Point Fraction (s ++ 46 ∷ []) k b bs (rw h refl)
      ∙ digits_run Fraction fraction_on ((s ++ 46 ∷ []) ++ b ∷ []) bs k g
      ∙ ap (λ (z : List ℕ). in_number Fraction z k) (append_assoc (s ++ 46 ∷ []) (b ∷ []) bs ∙ append_assoc s (46 ∷ []) (b ∷ bs)),
  after_fraction,
)

digit_no_sign : (b : ℕ) → is_digit b ≡ true → is_sign b ≡ false
digit_no_sign b h = grind (arith, nat_tests)

exponent_run : (p : InNumber) (s : List ℕ) (k : List Frame) {e : List ℕ} → AfterFraction p → IsExponent e → (q : InNumber) × (after (in_number p s k) e ≡ in_number q (s ++ e) k) × (number_ends q ≡ true)
exponent_run p s k a no_exponent = (p, no_step _ ∙ ap (λ (z : List ℕ). in_number p z k) (sym (append-nil s)), a.ends)
exponent_run p s k a (unsigned e b bs x h g) = (
  Digits,
  number_go p Exponent s k e (b ∷ bs) (a.exponent e x) ∙ number_go Exponent Digits (s ++ e ∷ []) k b bs (rw (digit_no_sign b h, h) refl)
      ∙ digits_run Digits digits_on ((s ++ e ∷ []) ++ b ∷ []) bs k g
      ∙ ap (λ (z : List ℕ). in_number Digits z k) (append_assoc (s ++ e ∷ []) (b ∷ []) bs ∙ append_assoc s (e ∷ []) (b ∷ bs)),
  refl,
)
exponent_run p s k a (signed e c b bs x y h g) = (
  Digits,
  number_go p Exponent s k e (c ∷ b ∷ bs) (a.exponent e x) ∙ number_go Exponent Signed (s ++ e ∷ []) k c (b ∷ bs) (rw y refl)
      ∙ number_go Signed Digits ((s ++ e ∷ []) ++ c ∷ []) k b bs (rw h refl)
      ∙ digits_run Digits digits_on (((s ++ e ∷ []) ++ c ∷ []) ++ b ∷ []) bs k g
      ∙ ap (λ (z : List ℕ). in_number Digits z k)
      (append_assoc ((s ++ e ∷ []) ++ c ∷ []) (b ∷ []) bs ∙ append_assoc (s ++ e ∷ []) (c ∷ []) (b ∷ bs) ∙ append_assoc s (e ∷ []) (c ∷ b ∷ bs)),
  refl,
)

-- a number leads from where a value begins to a place where the number may end
pub number_run : (m : Mode) (k k' : List Frame) (t : List ℕ) → Begins m k k' → IsNumber t → (p : InNumber) × (after (Some (state m k)) t ≡ in_number p t k') × (number_ends p ≡ true)
number_run m k k' t on n =
    let x = to_whole m k k' on n.is_minus n.is_whole in
    let y = fraction_run x.0 (n.m ++ n.w) k' x.2 n.is_fraction in
    let z = exponent_run y.0 ((n.m ++ n.w) ++ n.f) k' y.2 n.is_exponent in
    let same : t ≡ ((n.m ++ n.w) ++ n.f) ++ n.e = n.parts ∙ sym (append_assoc (n.m ++ n.w) n.f n.e ∙ append_assoc n.m n.w (n.f ++ n.e)) in (
      z.0,
      rw same (joined (Some (state m k)) (in_number y.0 ((n.m ++ n.w) ++ n.f) k') ((n.m ++ n.w) ++ n.f) n.e
          (joined (Some (state m k)) (in_number x.0 (n.m ++ n.w) k') (n.m ++ n.w) n.f x.1 ∙ y.1) ∙ z.1),
      z.2,
    )
