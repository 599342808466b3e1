-- Fronts of whole characters, of a text that is made part by part.
use Rattle.std.proofs.Common.{◌≡◌, ℕ, ◌+◌, ◌-◌, ◌<◌, ◌≤◌, Bool, true, false, List, ◌++◌, length, take, get_or, zero, suc, inl, inr, subst, refl, sym, ◌∙◌, ap, arith, length-append}
use Rattle.std.specs.Prelude.{nat_le}
use Rattle.std.specs.Str.{IsCharBoundary}
use Rattle.std.specs.Fmt.{is_char_start}
use Rattle.std.specs.Fmt.Cut.{floor_char_boundary}
use Rattle.std.proofs.lemmas.Grind.{common_steps}
use Rattle.std.proofs.lemmas.Bool.{le-leb, leb-true, cases_lt}
use Rattle.std.proofs.lemmas.List.{get_or_append_left, get_or-append-add}
use Rattle.macro_text.specs.Limited.{whole_front}
use Rattle.macro_text.proofs.Cutting.{cut_within, longer}

-- the last boundary of a text that stands at a place or before it
abbrev pub IsLastBoundary : List ℕ → ℕ → ℕ → Type 0
IsLastBoundary text i kept = (kept ≤ i) × IsCharBoundary text kept × ((j : ℕ) → kept < j → j ≤ i → IsCharBoundary text j → ⊥)

starts : (b : ℕ) → (128 ≤ b → 192 ≤ b) → is_char_start b ≡ true
starts b h = grind (arith, common_steps)

continues : (b : ℕ) → ((128 ≤ b → 192 ≤ b) → ⊥) → is_char_start b ≡ false
continues b h = by (is_char_start b) refl
  where
    by : (x : Bool) → is_char_start b ≡ x → is_char_start b ≡ false
    by true e = absurd (h (λ high. grind (arith, common_steps)))
    by false e = e

last_boundary : (text : List ℕ) (i kept : ℕ) → i < length text → IsLastBoundary text i kept → floor_char_boundary text i ≡ kept
unfolding floor_char_boundary
last_boundary text zero kept within last = omega (arith, last.0)
last_boundary text (suc i) kept within last = elim (cases_lt kept (suc i)) [
  | inl below ↦
      let none : is_char_start (get_or text (suc i) 0) ≡ false = continues (get_or text (suc i) 0) (λ h. last.2 (suc i) below (omega arith) (omega arith, λ _. h)) in
      rw none (last_boundary text i kept (omega arith) (omega arith, last.1, λ j p q. last.2 j p (omega arith)))
  | inr above ↦
      let same : kept ≡ suc i = omega (arith, last.0) in
      let start : is_char_start (get_or text (suc i) 0) ≡ true = starts (get_or text (suc i) 0) ((subst (IsCharBoundary text) same last.1).1 within) in
      rw start (sym same)
]

-- a byte of the second part
byte : (made more rest : List ℕ) (i : ℕ) → i < length more → get_or (made ++ more ++ rest) (length made + i) 0 ≡ get_or more i 0
byte made more rest i l =
    get_or_append_left (made ++ more) rest 0 (length made + i) (omega (arith, length-append made more)) ∙ get_or-append-add made more i 0

byte_at : (made more rest : List ℕ) (j : ℕ) → length made ≤ j → j < length made + length more → get_or (made ++ more ++ rest) j 0 ≡ get_or more (j - length made) 0
byte_at made more rest j from l =
    let e : length made + (j - length made) ≡ j = omega arith in
    ap (λ n. get_or (made ++ more ++ rest) n 0) (sym e) ∙ byte made more rest (j - length made) (omega arith)

-- the last boundary in the second part is that of the whole
last_of : (made more rest : List ℕ) (most kept : ℕ) → length made ≤ most → most < length made + length more → IsLastBoundary more (most - length made) kept
    → IsLastBoundary (made ++ more ++ rest) most (length made + kept)
last_of made more rest most kept from l last =
    let size : length (made ++ more ++ rest) ≡ length made + length more + length rest = omega (arith, length-append (made ++ more) rest, length-append made more) in (
      omega (arith, last.0),
      (omega (arith, last.0, size), λ _. rw (byte made more rest kept (omega (arith, last.0))) (last.1.1 (omega (arith, last.0)))),
      λ j p q h. last.2 (j - length made) (omega arith) (omega arith)
          (omega arith, λ _. rw (← byte_at made more rest j (omega arith) (omega arith)) (h.1 (omega (arith, size)))),
    )

not_le : (a b : ℕ) → b < a → nat_le a b ≡ false
not_le a b l = by (nat_le a b) refl
  where
    by : (x : Bool) → nat_le a b ≡ x → nat_le a b ≡ false
    by true e = absurd (omega (arith, leb-true a b e))
    by false e = e

-- the first part, and of the second one the whole characters for which there is room
pub whole_cut : (made more rest : List ℕ) (most kept : ℕ) → length made ≤ most → most < length made + length more → IsLastBoundary more (most - length made) kept
    → made ++ take kept more ≡ whole_front most (made ++ more ++ rest)
unfolding whole_front
whole_cut made more rest most kept from l last =
    let past : most < length (made ++ more ++ rest) = longer made more rest most l in
    let e : length made + kept - length made ≡ kept = omega arith in
    rw (
      not_le (length (made ++ more ++ rest)) most past,
      last_boundary (made ++ more ++ rest) most (length made + kept) past (last_of made more rest most kept from l last),
    )
    (ap (λ n. made ++ take n more) (sym e) ∙ cut_within made more rest (length made + kept) (omega arith) (omega (arith, last.0)))

-- a text within the limit is whole
pub whole_within : (text : List ℕ) (most : ℕ) → length text ≤ most → text ≡ whole_front most text
unfolding whole_front
whole_within text most l = rw (le-leb (length text) most l) refl
