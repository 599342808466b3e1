-- Laws of the texts of lines.
use Rattle.std.proofs.Common.{◌≡◌, ℕ, suc, ◌+◌, ◌*◌, ◌/◌, ◌%◌, ◌<◌, ◌≤◌, true, false, List, [], ◌∷◌, ◌++◌, ◌⊎◌, inl, inr, length, take, drop, refl, ap, sym, subst, ◌∙◌, arith}
use Rattle.std.specs.List.{prefix_len}
use Rattle.std.proofs.lemmas.Bool.{cases_Bool}
use Rattle.std.proofs.lemmas.Grind.{common_steps}
use Rattle.std.proofs.lemmas.List.Sums.{prefix_len-le-length}
use Rattle.event_text.specs.Lines.{moment_text, seconds_text, escaped, escaped_byte, is_plain}

-- a moment's text, by its seconds and nanoseconds
pub moment_text-parts : (sec ns : ℕ) → ns < 1000000000 → moment_text (sec * 1000000000 + ns) ≡ seconds_text sec ns
moment_text-parts sec ns small =
    let s : (sec * 1000000000 + ns) / 1000000000 ≡ sec = omega arith in
    let n : (sec * 1000000000 + ns) % 1000000000 ≡ ns = omega arith in
    rw (s, n)

-- the plain bytes at the front are among a text's
pub plain_within : (text : List ℕ) → prefix_len is_plain text ≤ length text
plain_within text = prefix_len-le-length is_plain text

abbrev Stays : List ℕ → ℕ → Type 0
Stays text n = escaped text ≡ take n text ++ escaped (drop n text)

plain_byte : (c : ℕ) → is_plain c ≡ true → escaped_byte c ≡ c ∷ []
plain_byte c plain = grind (arith, common_steps)

plain_more : (c : ℕ) (rest : List ℕ) → is_plain c ≡ true → prefix_len is_plain (c ∷ rest) ≡ suc (prefix_len is_plain rest)
plain_more c rest plain = grind (arith, common_steps)

plain_none : (c : ℕ) (rest : List ℕ) → is_plain c ≡ false → prefix_len is_plain (c ∷ rest) ≡ 0
plain_none c rest special = grind (arith, common_steps)

-- they stay as they are
pub plain_stays : (text : List ℕ) → Stays text (prefix_len is_plain text)
plain_stays [] = refl
plain_stays (c ∷ rest) = go (cases_Bool (is_plain c)) (plain_stays rest) where
  go : (is_plain c ≡ true) ⊎ (is_plain c ≡ false) → Stays rest (prefix_len is_plain rest) → Stays (c ∷ rest) (prefix_len is_plain (c ∷ rest))
  go (inl plain) behind = subst (λ n. Stays (c ∷ rest) n) (sym (plain_more c rest plain))
      (ap (λ u. u ++ escaped rest) (plain_byte c plain) ∙ ap (λ u. c ∷ u) behind)
  go (inr special) behind = subst (λ n. Stays (c ∷ rest) n) (sym (plain_none c rest special)) refl
