-- What has come of a number.
use Rattle.std.proofs.Common.{◌≡◌, ℕ, ◌*◌, ◌≤◌, List, [], ◌∷◌, ◌++◌, refl, ap, sym, ◌∙◌, nat_le, ◌==◌, arith, Option, Some, None, inl, inr, subst, append_assoc, append-nil}
use Rattle.byte_grammar.specs.Bytes.{is_digit}
use Rattle.expr_parser.specs.declared.figures.Figures.{Figures}
use Rattle.expr_parser.specs.declared.figures.Figures.TheVariants.{Integral, Pointed, Fraction, Suffixed}
use Rattle.expr_parser.specs.Bytes.{AreDigits}
use Rattle.expr_parser.specs.Numbers.{is_at_most, millionths, IsDecimal, whole, pointed, IsNumber, decimal, suffixed, number_factor}
use Rattle.expr_parser.specs.Figures.{figures_text, figures_value, held_to, scaled, first_figure, figure}
use Rattle.expr_parser.proofs.Lists.{way, some_is, none_some, le_true, are_snoc, are_one, eq_true}
use Rattle.expr_parser.proofs.Amounts.{Bounded, test_bounded, bounded_zero}

-- the text so far begins a number
abbrev pub NumberPast : ℕ → Figures → Type 0
NumberPast most (Integral w) = (b : ℕ) × (bs : List ℕ) × (w ≡ b ∷ bs) × AreDigits (b ∷ bs) × Bounded most (millionths w)
NumberPast most (Pointed w) = (b : ℕ) × (bs : List ℕ) × (w ≡ (b ∷ bs) ++ 46 ∷ []) × AreDigits (b ∷ bs) × Bounded most (millionths (b ∷ bs))
NumberPast most (Fraction w) = (b : ℕ) × (bs : List ℕ) × (c : ℕ) × (cs : List ℕ) × (w ≡ (b ∷ bs) ++ 46 ∷ c ∷ cs) × AreDigits (b ∷ bs) × AreDigits (c ∷ cs) × Bounded most (millionths w)
NumberPast most (Suffixed w n) = IsNumber most w n

-- a place behind one byte more, with what has come
pub record Onward (most : ℕ) (g : Figures) (t : List ℕ) : Type 0 where
  pub past : NumberPast most g
  pub text : figures_text g ≡ t

as_figure : (most : ℕ) (f g : Figures) (t : List ℕ) → NumberPast most f → figures_text f ≡ t → Some f ≡ Some g → Onward most g t
as_figure most f g t h e k = let c : f ≡ g = some_is f g k in subst (λ (v : Figures). Onward most v t) c (record { past = h; text = e })

held_past : (most : ℕ) (w : List ℕ) (f g : Figures) (t : List ℕ) → held_to most w f ≡ Some g → (Bounded most (millionths w) → NumberPast most f) → figures_text f ≡ t → Onward most g t
held_past most w f g t h k e = elim (way (is_at_most most (millionths w)) (Some f) None (Some g) h) [
  | inl z ↦ as_figure most f g t (k (test_bounded most (millionths w) z.0)) e z.1
  | inr z ↦ none_some g z.1
]

pub first_past : (most b : ℕ) (g : Figures) → first_figure most b ≡ Some g → Onward most g (b ∷ [])
first_past most b g h = elim (way (is_digit b) (held_to most (b ∷ []) (Integral (b ∷ []))) None (Some g) h) [
  | inl z ↦ held_past most (b ∷ []) (Integral (b ∷ [])) g (b ∷ []) z.1 (λ r. (b, [], refl, are_one b z.0, r)) refl
  | inr z ↦ none_some g z.1
]

scaled_past : (most : ℕ) (u : List ℕ) (b : ℕ) (o f : Option ℕ) (g : Figures) → IsDecimal u → millionths u ≡ o → Bounded most o → number_factor b ≡ f → scaled most (u ++ b ∷ []) o f ≡ Some g → Onward most g (u ++ b ∷ [])
scaled_past most u b None f g d e r q h = none_some g h
scaled_past most u b (Some m) None g d e r q h = none_some g h
scaled_past most u b (Some m) (Some f) g d e r q h = elim (way (nat_le (m * f) most) (Some (Suffixed (u ++ b ∷ []) (m * f))) None (Some g) h) [
  | inl z ↦ as_figure most (Suffixed (u ++ b ∷ []) (m * f)) g (u ++ b ∷ []) (suffixed u b m f d e (let s : m ≡ r.n = some_is m r.n r.is in let l = r.small in omega arith) q refl (le_true (m * f) most z.0) refl) refl z.1
  | inr z ↦ none_some g z.1
]

pub figure_past : (most : ℕ) (f g : Figures) (b : ℕ) → NumberPast most f → figure most f b ≡ Some g → Onward most g (figures_text f ++ b ∷ [])
figure_past most (Integral w) g b p h = elim (way (is_digit b) _ _ (Some g) h) [
  | inl z ↦ held_past most (w ++ b ∷ []) (Integral (w ++ b ∷ [])) g (w ++ b ∷ []) z.1 (λ r. (p.0, p.1 ++ b ∷ [], ap (λ (v : List ℕ). v ++ b ∷ []) p.2, are_snoc (p.0 ∷ p.1) b p.3 z.0, r)) refl
  | inr z ↦ elim (way (b == 46) _ _ (Some g) z.1) [
    | inl y ↦ as_figure most (Pointed (w ++ b ∷ [])) g (w ++ b ∷ []) (p.0, p.1, ap (λ (v : List ℕ). v ++ b ∷ []) p.2 ∙ ap (λ (c : ℕ). (p.0 ∷ p.1) ++ c ∷ []) (eq_true b 46 y.0), p.3, subst (λ (v : List ℕ). Bounded most (millionths v)) p.2 p.4) refl y.1
    | inr y ↦ scaled_past most w b (millionths w) (number_factor b) g (subst IsDecimal (sym p.2) (whole p.0 p.1 p.3)) refl p.4 refl y.1
  ]
]
figure_past most (Pointed w) g b p h = elim (way (is_digit b) _ _ (Some g) h) [
  | inl z ↦ held_past most (w ++ b ∷ []) (Fraction (w ++ b ∷ [])) g (w ++ b ∷ []) z.1 (λ r. (p.0, p.1, b, [], ap (λ (v : List ℕ). v ++ b ∷ []) p.2 ∙ append_assoc (p.0 ∷ p.1) (46 ∷ []) (b ∷ []), p.3, are_one b z.0, r)) refl
  | inr z ↦ none_some g z.1
]
figure_past most (Fraction w) g b p h = elim (way (is_digit b) _ _ (Some g) h) [
  | inl z ↦ held_past most (w ++ b ∷ []) (Fraction (w ++ b ∷ [])) g (w ++ b ∷ []) z.1 (λ r. (p.0, p.1, p.2, p.3 ++ b ∷ [], ap (λ (v : List ℕ). v ++ b ∷ []) p.4 ∙ append_assoc (p.0 ∷ p.1) (46 ∷ p.2 ∷ p.3) (b ∷ []), p.5, are_snoc (p.2 ∷ p.3) b p.6 z.0, r)) refl
  | inr z ↦ scaled_past most w b (millionths w) (number_factor b) g (pointed p.0 p.2 p.1 p.3 p.5 p.6 p.4) refl p.7 refl z.1
]
figure_past most (Suffixed w n) g b p h = none_some g h

bounded_small : (most : ℕ) (o : Option ℕ) (n : ℕ) → Bounded most o → o ≡ Some n → n ≤ most
bounded_small most o n r e = let s : n ≡ r.n = some_is n r.n (sym e ∙ r.is) in let l = r.small in omega arith

pub number_ends : (most : ℕ) (f : Figures) (n : ℕ) → NumberPast most f → figures_value f ≡ Some n → IsNumber most (figures_text f) n
number_ends most (Integral w) n p h = decimal (subst IsDecimal (sym p.2) (whole p.0 p.1 p.3)) h (bounded_small most (millionths w) n p.4 h)
number_ends most (Pointed w) n p h = none_some n h
number_ends most (Fraction w) n p h = decimal (pointed p.0 p.2 p.1 p.3 p.5 p.6 p.4) h (bounded_small most (millionths w) n p.7 h)
number_ends most (Suffixed w m) n p h = subst (λ (v : ℕ). IsNumber most w v) (some_is m n h) p

-- some text completes the number
pub record NumberLives (most : ℕ) (t : List ℕ) : Type 0 where
  pub more : List ℕ
  pub n : ℕ
  pub is : IsNumber most (t ++ more) n

now : (most n : ℕ) (t : List ℕ) → IsNumber most t n → NumberLives most t
now most n t h = record { more = []; n = n; is = subst (λ (v : List ℕ). IsNumber most v n) (sym (append-nil t)) h }

one_zero : AreDigits (48 ∷ [])
unfolding AreDigits
one_zero = (refl, tt)

pub number_lives : (most : ℕ) (f : Figures) → NumberPast most f → NumberLives most (figures_text f)
number_lives most (Integral w) p = now most p.4.n w (number_ends most (Integral w) p.4.n p p.4.is)
number_lives most (Pointed w) p =
    let r = bounded_zero most p.0 p.1 p.3 p.4 in
    let e : w ++ 48 ∷ [] ≡ (p.0 ∷ p.1) ++ 46 ∷ 48 ∷ [] = ap (λ (v : List ℕ). v ++ 48 ∷ []) p.2 ∙ append_assoc (p.0 ∷ p.1) (46 ∷ []) (48 ∷ []) in
    record { more = 48 ∷ []; n = r.n; is = decimal (pointed p.0 48 p.1 [] p.3 one_zero e) (ap (λ (v : List ℕ). millionths v) e ∙ r.is) r.small }
number_lives most (Fraction w) p = now most p.7.n w (number_ends most (Fraction w) p.7.n p p.7.is)
number_lives most (Suffixed w n) p = now most n w p
