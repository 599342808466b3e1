-- What the machine takes in a number is a number of the grammar.
use Rattle.std.proofs.Common.{◌≡◌, ℕ, ◌==◌, List, [], ◌∷◌, ◌++◌, refl, ap, sym, ◌∙◌, Some, None, true, false, arith, inl, inr, append_assoc, append-nil, subst}
use Rattle.std.proofs.lemmas.Bool.Decides.{nat_tests}
use Rattle.byte_grammar.specs.Bytes.{Each, is_digit, is_nonzero_digit, is_e}
use Rattle.json_text.specs.Bytes.{is_sign, AreDigits}
use Rattle.json_text.specs.Grammar.{IsMinus, no_minus, minus, IsWhole, only_zero, whole, IsFraction, no_fraction, fraction, IsExponent, no_exponent, unsigned, signed, IsNumber}
use Rattle.json_text.specs.Tokens.{number_step, number_ends, behind_whole, digit_to}
use Rattle.json_text.specs.declared.number.InNumber.{InNumber}
use Rattle.json_text.specs.declared.number.InNumber.TheVariants.{Minus, Zero, Whole, Point, Fraction, Exponent, Signed, Digits}
use Rattle.json_text.proofs.SoundStrings.{chosen}

-- a part of a number behind those before it
pub record Ended (X P : List ℕ → Type 0) (t : List ℕ) : Type 0 where
  pub x : List ℕ
  pub r : List ℕ
  pub before : X x
  pub is : P r
  pub parts : t ≡ x ++ r

-- the same of a part to which all digits may be added
pub record Growing (X P : List ℕ → Type 0) (t : List ℕ) : Type 0 where
  pub x : List ℕ
  pub r : List ℕ
  pub before : X x
  pub is : (ds : List ℕ) → AreDigits ds → P (r ++ ds)
  pub parts : t ≡ x ++ r

abbrev ToWhole : List ℕ → Type 0
ToWhole t = Ended IsMinus IsWhole t

abbrev ToFraction : List ℕ → Type 0
ToFraction t = Ended ToWhole IsFraction t

abbrev ToExponent : List ℕ → Type 0
ToExponent t = Ended ToFraction IsExponent t

abbrev IsE : List ℕ → Type 0
IsE r = (e : ℕ) × (is_e e ≡ true) × (r ≡ e ∷ [])

abbrev IsSigned : List ℕ → Type 0
IsSigned r = (e s : ℕ) × (is_e e ≡ true) × (is_sign s ≡ true) × (r ≡ e ∷ s ∷ [])

-- the text of a number so far, by the place that it leads to
abbrev pub IsFront : InNumber → List ℕ → Type 0
IsFront Minus t = t ≡ 45 ∷ []
IsFront Zero t = ToWhole t
IsFront Whole t = Growing IsMinus IsWhole t
IsFront Point t = Ended ToWhole (λ r. r ≡ 46 ∷ []) t
IsFront Fraction t = Growing ToWhole IsFraction t
IsFront Exponent t = Ended ToFraction IsE t
IsFront Signed t = Ended ToFraction IsSigned t
IsFront Digits t = Growing ToFraction IsExponent t

no_digits : AreDigits []
unfolding Each
no_digits = tt

more_digits : (b : ℕ) (ds : List ℕ) → is_digit b ≡ true → AreDigits ds → AreDigits (b ∷ ds)
unfolding Each
more_digits b ds h a = (h, a)

pub ended : (X P : List ℕ → Type 0) (t : List ℕ) → Growing X P t → Ended X P t
ended X P t g = record { x = g.x; r = g.r; before = g.before; is = subst P (append-nil g.r) (g.is [] no_digits); parts = g.parts }

grown : (X P : List ℕ → Type 0) (t : List ℕ) (b : ℕ) → Growing X P t → is_digit b ≡ true → Growing X P (t ++ b ∷ [])
grown X P t b g h = record {
  x = g.x;
  r = g.r ++ b ∷ [];
  before = g.before;
  is = λ ds a. subst P (sym (append_assoc g.r (b ∷ []) ds)) (g.is (b ∷ ds) (more_digits b ds h a));
  parts = ap (λ (v : List ℕ). v ++ b ∷ []) g.parts ∙ append_assoc g.x g.r (b ∷ []);
}

snoc : (X : List ℕ → Type 0) (t r x : List ℕ) (b : ℕ) → t ≡ x ++ r → t ++ b ∷ [] ≡ x ++ (r ++ b ∷ [])
snoc X t r x b e = ap (λ (v : List ℕ). v ++ b ∷ []) e ∙ append_assoc x r (b ∷ [])

-- a place that was led to
landed : (p q : InNumber) (t : List ℕ) → Some p ≡ Some q → IsFront p t → IsFront q t
landed p q t e h = let g : p ≡ q = cc in subst (λ (z : InNumber). IsFront z t) g h

nowhere : (q : InNumber) (t : List ℕ) → None ≡ Some q → IsFront q t
nowhere q t e = absurd cc

digit_landed : (p q : InNumber) (t : List ℕ) (b : ℕ) → digit_to p b ≡ Some q → (is_digit b ≡ true → IsFront p t) → IsFront q t
digit_landed p q t b e h = elim (chosen (is_digit b) (Some p) None (Some q) e) [
  | inl z ↦ landed p q t z.1 (h z.0)
  | inr z ↦ nowhere q t z.1
]

whole_fraction : (t : List ℕ) → ToWhole t → ToFraction t
whole_fraction t w = record { x = t; r = []; before = w; is = no_fraction; parts = sym (append-nil t) }

-- behind the whole part
behind_sound : (q : InNumber) (t : List ℕ) (b : ℕ) → ToWhole t → behind_whole b ≡ Some q → IsFront q (t ++ b ∷ [])
behind_sound q t b w e = elim (chosen (b == 46) (Some Point) _ (Some q) e) [
  | inl z ↦ let g : b ≡ 46 = grind (arith, nat_tests, z.0) in landed Point q (t ++ b ∷ []) z.1 (record { x = t; r = b ∷ []; before = w; is = rw g refl; parts = refl })
  | inr z ↦ elim (chosen (is_e b) (Some Exponent) None (Some q) z.1) [
    | inl y ↦ landed Exponent q (t ++ b ∷ []) y.1 (record { x = t; r = b ∷ []; before = whole_fraction t w; is = (b, y.0, refl); parts = refl })
    | inr y ↦ nowhere q _ y.1
  ]
]

minus_zero : ToWhole (45 ∷ 48 ∷ [])
minus_zero = record { x = 45 ∷ []; r = 48 ∷ []; before = minus; is = only_zero; parts = refl }

nonzero : (b : ℕ) → (b == 48) ≡ false → is_digit b ≡ true → is_nonzero_digit b ≡ true
nonzero b e h = grind (arith, nat_tests)

minus_sound : (q : InNumber) (b : ℕ) → number_step Minus b ≡ Some q → IsFront q (45 ∷ b ∷ [])
minus_sound q b e = elim (chosen (b == 48) (Some Zero) _ (Some q) e) [
  | inl z ↦ let g : b ≡ 48 = grind (arith, nat_tests, z.0) in rw g (landed Zero q (45 ∷ 48 ∷ []) z.1 minus_zero)
  | inr z ↦ digit_landed Whole q (45 ∷ b ∷ []) b z.1 (λ h. record { x = 45 ∷ []; r = b ∷ []; before = minus; is = λ ds a. whole b ds (nonzero b z.0 h) a; parts = refl })
]

signed_sound : (t : List ℕ) (b : ℕ) → Ended ToFraction IsE t → is_sign b ≡ true → Ended ToFraction IsSigned (t ++ b ∷ [])
signed_sound t b w h = record {
  x = w.x;
  r = w.r ++ b ∷ [];
  before = w.before;
  is = (w.is.0, b, w.is.1, h, ap (λ (v : List ℕ). v ++ b ∷ []) w.is.2);
  parts = ap (λ (v : List ℕ). v ++ b ∷ []) w.parts ∙ append_assoc w.x w.r (b ∷ []);
}

digits_behind_e : (t : List ℕ) (b : ℕ) → Ended ToFraction IsE t → is_digit b ≡ true → Growing ToFraction IsExponent (t ++ b ∷ [])
digits_behind_e t b w h = record {
  x = w.x;
  r = w.is.0 ∷ b ∷ [];
  before = w.before;
  is = λ ds a. unsigned w.is.0 b ds w.is.1 h a;
  parts = ap (λ (v : List ℕ). v ++ b ∷ []) (w.parts ∙ ap (λ (v : List ℕ). w.x ++ v) w.is.2) ∙ append_assoc w.x (w.is.0 ∷ []) (b ∷ []);
}

digits_behind_sign : (t : List ℕ) (b : ℕ) → Ended ToFraction IsSigned t → is_digit b ≡ true → Growing ToFraction IsExponent (t ++ b ∷ [])
digits_behind_sign t b w h = record {
  x = w.x;
  r = w.is.0 ∷ w.is.1 ∷ b ∷ [];
  before = w.before;
  is = λ ds a. signed w.is.0 w.is.1 b ds w.is.2 w.is.3 h a;
  parts = ap (λ (v : List ℕ). v ++ b ∷ []) (w.parts ∙ ap (λ (v : List ℕ). w.x ++ v) w.is.4) ∙ append_assoc w.x (w.is.0 ∷ w.is.1 ∷ []) (b ∷ []);
}

-- one byte more
pub number_sound : (p q : InNumber) (t : List ℕ) (b : ℕ) → IsFront p t → number_step p b ≡ Some q → IsFront q (t ++ b ∷ [])
number_sound Minus q t b w e = rw w (minus_sound q b e)
number_sound Zero q t b w e = behind_sound q t b w e
number_sound Whole q t b w e = elim (chosen (is_digit b) (Some Whole) _ (Some q) e) [
  | inl z ↦ landed Whole q (t ++ b ∷ []) z.1 (grown IsMinus IsWhole t b w z.0)
  | inr z ↦ behind_sound q t b (ended IsMinus IsWhole t w) z.1
]
number_sound Point q t b w e = digit_landed Fraction q (t ++ b ∷ []) b e (λ h. record {
  x = w.x;
  r = 46 ∷ b ∷ [];
  before = w.before;
  is = λ ds a. fraction b ds h a;
  parts = ap (λ (v : List ℕ). v ++ b ∷ []) (w.parts ∙ ap (λ (v : List ℕ). w.x ++ v) w.is) ∙ append_assoc w.x (46 ∷ []) (b ∷ []);
})
number_sound Fraction q t b w e = elim (chosen (is_digit b) (Some Fraction) _ (Some q) e) [
  | inl z ↦ landed Fraction q (t ++ b ∷ []) z.1 (grown ToWhole IsFraction t b w z.0)
  | inr z ↦ elim (chosen (is_e b) (Some Exponent) None (Some q) z.1) [
    | inl y ↦ landed Exponent q (t ++ b ∷ []) y.1 (record { x = t; r = b ∷ []; before = ended ToWhole IsFraction t w; is = (b, y.0, refl); parts = refl })
    | inr y ↦ nowhere q _ y.1
  ]
]
number_sound Exponent q t b w e = elim (chosen (is_sign b) (Some Signed) _ (Some q) e) [
  | inl z ↦ landed Signed q (t ++ b ∷ []) z.1 (signed_sound t b w z.0)
  | inr z ↦ digit_landed Digits q (t ++ b ∷ []) b z.1 (λ h. digits_behind_e t b w h)
]
number_sound Signed q t b w e = digit_landed Digits q (t ++ b ∷ []) b e (λ h. digits_behind_sign t b w h)
number_sound Digits q t b w e = digit_landed Digits q (t ++ b ∷ []) b e (λ h. grown ToFraction IsExponent t b w h)

-- ---- where the number may end

from_exponent : (t : List ℕ) → ToExponent t → IsNumber t
from_exponent t w = record {
  m = w.before.before.x;
  w = w.before.before.r;
  f = w.before.r;
  e = w.r;
  is_minus = w.before.before.before;
  is_whole = w.before.before.is;
  is_fraction = w.before.is;
  is_exponent = w.is;
  parts = w.parts ∙ simp (w.before.parts, w.before.before.parts, append_assoc);
}

from_fraction : (t : List ℕ) → ToFraction t → IsNumber t
from_fraction t w = from_exponent t (record { x = t; r = []; before = w; is = no_exponent; parts = sym (append-nil t) })

pub number_whole : (p : InNumber) (t : List ℕ) → IsFront p t → number_ends p ≡ true → IsNumber t
number_whole Zero t w e = from_fraction t (whole_fraction t w)
number_whole Whole t w e = from_fraction t (whole_fraction t (ended IsMinus IsWhole t w))
number_whole Fraction t w e = from_fraction t (ended ToWhole IsFraction t w)
number_whole Digits t w e = from_exponent t (ended ToFraction IsExponent t w)
number_whole _ t w e = absurd cc

-- the first byte
pub first_minus : IsFront Minus (45 ∷ [])
first_minus = refl

pub first_zero : IsFront Zero (48 ∷ [])
first_zero = record { x = []; r = 48 ∷ []; before = no_minus; is = only_zero; parts = refl }

pub first_whole : (b : ℕ) → (b == 48) ≡ false → is_digit b ≡ true → IsFront Whole (b ∷ [])
first_whole b e h = record { x = []; r = b ∷ []; before = no_minus; is = λ ds a. whole b ds (nonzero b e h) a; parts = refl }
