-- Where fronts end: at a place where a text may be cut.
use Rattle.std.proofs.Common.{◌≡◌, ℕ, ◌+◌, ◌<◌, ◌≤◌, ◌⊎◌, inl, inr, zero, suc, List, [], ◌∷◌, length, get_or, ap, subst, sym, ◌∙◌, arith, false}
use Rattle.std.proofs.lemmas.Grind.{common_steps}
use Rattle.std.proofs.lemmas.Bool.{cases_lt}
use Rattle.std.proofs.lemmas.List.Sums.{prefix_len-le-length, prefix_len_stops}
use Rattle.std.proofs.lemmas.Str.{IsCharBoundary-before_ascii, IsCharBoundary-after_ascii, IsCharBoundary-end, IsCharBoundary-start}
use Rattle.std.specs.Str.{IsUtf8, IsCharBoundary}
use Rattle.macro_text.specs.References.{name_len, named_len, reference_len, before_brace, is_plain, plain_len}

-- the bytes before the first brace are among a text's
pub lengths : (text : List ℕ) → before_brace text ≤ length text
lengths text = prefix_len-le-length is_plain text

-- a byte that is not plain is a brace
brace : (c : ℕ) → is_plain c ≡ false → c ≡ 123
brace c e = grind (arith, common_steps)

pub plain-within : (text : List ℕ) → plain_len text ≤ length text
plain-within [] = omega arith
plain-within (c ∷ rest) = omega (arith, lengths rest)

-- where plain bytes end, a brace stands
brace-behind : (rest : List ℕ) → before_brace rest < length rest → get_or rest (before_brace rest) 0 ≡ 123
brace-behind rest less = brace (get_or rest (before_brace rest) 0) (prefix_len_stops is_plain rest 0 less)

plain-ends : (text : List ℕ) → plain_len text < length text → get_or text (plain_len text) 0 ≡ 123
plain-ends [] less = grind arith
plain-ends (c ∷ rest) less =
    let e : 1 + before_brace rest ≡ suc (before_brace rest) = omega arith in
    let l : before_brace rest < length rest = omega arith in
    ap (λ n. get_or (c ∷ rest) n 0) e ∙ brace-behind rest l

pub plain-boundary : (text : List ℕ) → IsUtf8 text → IsCharBoundary text (plain_len text)
plain-boundary text utf8 = go (cases_lt (plain_len text) (length text)) where
  go : (plain_len text < length text) ⊎ (length text ≤ plain_len text) → IsCharBoundary text (plain_len text)
  go (inl less) = IsCharBoundary-before_ascii text (plain_len text) less (omega (arith, plain-ends text less))
  go (inr most) =
      let e : length text ≡ plain_len text = omega (arith, plain-within text) in
      subst (λ n. IsCharBoundary text n) e (IsCharBoundary-end text)

-- how long a reference is, where one begins
named-cases : (rest : List ℕ) → 0 < named_len rest → (named_len rest ≡ name_len rest + 3) × (0 < name_len rest) × (get_or rest (name_len rest) 0 ≡ 125)
named-cases rest some = (grind (arith, common_steps), grind (arith, common_steps), grind (arith, common_steps))

-- a reference is as long as its name and three bytes
reference-named : (c d : ℕ) (rest : List ℕ) → 0 < reference_len (c ∷ d ∷ rest) → reference_len (c ∷ d ∷ rest) ≡ named_len rest
reference-named c d rest some = grind (arith, common_steps)

-- a closing brace is no byte past the end
closed-within : (rest : List ℕ) (n : ℕ) → get_or rest n 0 ≡ 125 → n < length rest
closed-within [] n closed = grind (arith, common_steps)
closed-within (c ∷ rest) zero closed = omega arith
closed-within (c ∷ rest) (suc n) closed = omega (arith, closed-within rest n closed)

-- a reference ends with a closing brace
pub reference-ends : (text : List ℕ) → 0 < reference_len text → (n : ℕ) × (reference_len text ≡ n + 1) × (n < length text) × (get_or text n 0 ≡ 125)
reference-ends [] some = absurd (omega arith)
reference-ends (c ∷ []) some = absurd (omega arith)
reference-ends (c ∷ d ∷ rest) some =
    let e : reference_len (c ∷ d ∷ rest) ≡ named_len rest = reference-named c d rest some in
    let less : 0 < named_len rest = omega (arith, e, some) in
    let named : (named_len rest ≡ name_len rest + 3) × (0 < name_len rest) × (get_or rest (name_len rest) 0 ≡ 125) = named-cases rest less in
    (suc (suc (name_len rest)), omega (arith, e, named.0), omega (arith, closed-within rest (name_len rest) named.2), named.2)

pub reference-boundary : (text : List ℕ) → IsUtf8 text → IsCharBoundary text (reference_len text)
reference-boundary text utf8 = go (cases_lt 0 (reference_len text)) where
  go : (0 < reference_len text) ⊎ (reference_len text ≤ 0) → IsCharBoundary text (reference_len text)
  go (inl some) =
      let ends : (n : ℕ) × (reference_len text ≡ n + 1) × (n < length text) × (get_or text n 0 ≡ 125) = reference-ends text some in
      subst (λ n. IsCharBoundary text n) (sym ends.1) (IsCharBoundary-after_ascii text ends.0 utf8 ends.2 (omega (arith, ends.3)))
  go (inr none) =
      let e : 0 ≡ reference_len text = omega arith in
      subst (λ n. IsCharBoundary text n) e (IsCharBoundary-start text utf8)
