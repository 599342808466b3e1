-- Whole numbers with their millionths, a digit more at a time.
use Rattle.std.proofs.Common.{◌≡◌, ℕ, ◌+◌, ◌-◌, ◌*◌, ◌≤◌, ◌^◌, List, [], ◌∷◌, ◌++◌, refl, ap, sym, ◌∙◌, Bool, true}
use Rattle.std.proofs.Common.{false, arith, Option, Some, None, append-nil, inl, inr, if◌then◌else◌, option_map}
use Rattle.zbx_types.specs.Numerals.{digits_after}
use Rattle.zbx_types.proofs.NumeralLemmas.{digits_after-append}
use Rattle.byte_grammar.specs.Bytes.{is_digit}
use Rattle.expr_parser.specs.declared.figures.Figures.TheVariants.{Integral}
use Rattle.expr_parser.specs.Figures.{held_to}
use Rattle.expr_parser.specs.Numbers.{IsWritten, is_at_most, millionths}
use Rattle.expr_parser.proofs.Lists.{are_one, are_snoc, either_way, le_test}
use Rattle.expr_parser.proofs.Amounts.{amount, capped, capped_is, capped_some, test_bounded, whole_is}

amount_alone : (w : List ℕ) → amount w [] ≡ digits_after 0 w * 1000000
amount_alone w = rw (append-nil w) (omega arith)

pub written_value : (t : List ℕ) (n : ℕ) → IsWritten t n → millionths t ≡ capped n
written_value t n h =
    ap (λ (v : List ℕ). millionths v) h.2 ∙ whole_is h.0 h.1 h.3
    ∙ ap (λ (m : ℕ). capped m)
    (amount_alone (h.0 ∷ h.1) ∙ ap (λ (v : List ℕ). digits_after 0 v * 1000000) (sym h.2) ∙ h.4)

pub written_one : (d : ℕ) → is_digit d ≡ true → IsWritten (d ∷ []) ((d - 48) * 1000000)
written_one d g = (d, [], refl, are_one d g, omega arith)

pub written_more : (t : List ℕ) (n d : ℕ) → IsWritten t n → is_digit d ≡ true
    → IsWritten (t ++ d ∷ []) (n * 10 + (d - 48) * 1000000)
written_more t n d h g =
    let e : digits_after 0 (t ++ d ∷ []) ≡ digits_after 0 t * 10 + (d - 48) = digits_after-append 0 t (d ∷ []) in
    let v : digits_after 0 t * 1000000 ≡ n = h.4 in
    (h.0, h.1 ++ d ∷ [], ap (λ (v : List ℕ). v ++ d ∷ []) h.2, are_snoc (h.0 ∷ h.1) d h.3 g, omega (arith, e, v))

pub written_some : (t : List ℕ) (n : ℕ) → IsWritten t n → n ≤ 10 ^ 30 → Some n ≡ millionths t
written_some t n h l = sym (written_value t n h ∙ capped_is n (omega arith))

pub integral_held : (most : ℕ) (t : List ℕ) (o : Option (List ℕ))
    → o ≡ (if is_at_most most (millionths t) then Some t else None)
    → option_map Integral o ≡ held_to most t (Integral t)
integral_held most t o h = ap (λ v. option_map Integral v) h ∙ kept (is_at_most most (millionths t))
  where
    kept : (b : Bool) → option_map Integral (if b then Some t else None) ≡ (if b then Some (Integral t) else None)
    kept true = refl
    kept false = refl

-- the text is in range where its millionths are
pub written_passes : (most n : ℕ) (t : List ℕ) → IsWritten t n → n ≤ 10 ^ 30 → n ≤ most
    → is_at_most most (millionths t) ≡ true
written_passes most n t h l m =
    ap (λ o. is_at_most most o) (sym (written_some t n h l)) ∙ le_test n most m

pub written_fails : (most n : ℕ) (t : List ℕ) → IsWritten t n → (n ≤ 10 ^ 30 → n ≤ most → ⊥)
    → is_at_most most (millionths t) ≡ false
written_fails most n t h g = elim (either_way (is_at_most most (millionths t))) [
  | inr z ↦ z
  | inl z ↦
      let b = test_bounded most (millionths t) z in
      let r = capped_some n b.n (sym (written_value t n h) ∙ b.is) in
      let e : n ≡ b.n = r.0 in
      let l : n ≤ 1000000000000000000000000000000 = r.1 in
      let m : b.n ≤ most = b.small in
      absurd (g (omega arith) (omega arith))
]
