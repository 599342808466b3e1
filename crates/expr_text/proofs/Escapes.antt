-- Texts between quotes.
use Rattle.std.proofs.Common.{◌≡◌, ℕ, suc, ◌+◌, ◌<◌, List, [], ◌∷◌, ◌++◌, length, refl, ap, sym, ◌∙◌, ◌==◌, arith, Option, Some, None, MatchOption, lit<, inl, inr, append_assoc}
use denote.Ref.{Bor}
use Rattle.std.proofs.lemmas.Str.Pattern.{IsSplitOnceResult, split_once_first}
use Rattle.std.specs.List.{position_or_len, before_first, after_first}
use Rattle.expr_text.specs.Written.{escaped}
use Rattle.expr_parser.proofs.Lists.{either_way}

-- no quote
pub stays : (s : List ℕ) → position_or_len (λ b. b == 34) s ≡ length s → escaped s ≡ s
stays [] h = refl
stays (b ∷ bs) h = elim (either_way (b == 34)) [
  | inl e ↦ let g = rw e at h in absurd (omega (arith, g))
  | inr e ↦ let g = rw e at h in rw e (ap (λ (r : List ℕ). b ∷ r) (stays bs (omega (arith, g))))
]

-- the first quote
pub splits : (s : List ℕ) → position_or_len (λ b. b == 34) s < length s
    → escaped s ≡ before_first (λ b. b == 34) s ++ 92 ∷ 34 ∷ escaped (after_first (λ b. b == 34) s)
splits [] h = absurd (omega arith)
splits (b ∷ bs) h = elim (either_way (b == 34)) [
  | inl e ↦ rw e refl
  | inr e ↦
      let g = rw e at h in
      let n = position_or_len (λ b. b == 34) bs in
      let one : 1 + n ≡ suc n = omega arith in
      let two : suc n + 1 ≡ suc (n + 1) = omega arith in
      rw (e, one, two) (ap (λ (r : List ℕ). b ∷ r) (splits bs (omega (arith, g))))
]

-- what stands before and behind the first quote
split_parts : (s : List ℕ) (r : Option (Bor (List ℕ) × Bor (List ℕ)))
    → MatchOption r (position_or_len (λ b. b == 34) s ≡ length s) (λ x. (position_or_len (λ b. b == 34) s < length s) × (x.0.now ≡ before_first (λ b. b == 34) s) × (x.1.now ≡ after_first (λ b. b == 34) s))
    → MatchOption r (escaped s ≡ s) (λ x. escaped s ≡ (x.0.now ++ 92 ∷ 34 ∷ []) ++ escaped x.1.now)
split_parts s None h = stays s h
split_parts s (Some x) h =
    splits s h.0 ∙ ap (λ (f : List ℕ). f ++ 92 ∷ 34 ∷ escaped (after_first (λ b. b == 34) s)) (sym h.1)
    ∙ ap (λ (r : List ℕ). x.0.now ++ 92 ∷ 34 ∷ escaped r) (sym h.2) ∙ sym (append_assoc x.0.now (92 ∷ 34 ∷ []) (escaped x.1.now))

pub parts : (s : List ℕ) (r : Option (Bor (List ℕ) × Bor (List ℕ))) → IsSplitOnceResult 34 s r
    → MatchOption r (escaped s ≡ s) (λ x. escaped s ≡ (x.0.now ++ 92 ∷ 34 ∷ []) ++ escaped x.1.now)
parts s r h = split_parts s r (split_once_first 34 s r h (lit< tt))
