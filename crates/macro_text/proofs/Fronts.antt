-- A text is its front and what stands behind it, replaced one after the other.
use Rattle.std.proofs.Common.{◌≡◌, ◌&&◌, ◌⊎◌, inl, inr, ℕ, zero, suc, ◌+◌, ◌-◌, ◌<◌, ◌==◌, List, [], ◌∷◌, ◌++◌, length, take, drop, refl, ap, subst, sym, ◌∙◌, arith, true, false}
use Rattle.std.proofs.lemmas.Grind.{common_steps}
use Rattle.std.proofs.lemmas.Bool.{cases_Bool}
use Rattle.macro_text.specs.References.{reference_len, before_brace, is_plain, plain_len}
use Rattle.macro_text.specs.Expanded.{value_of, front_of, expanded_behind, expanded, OpensNoReference}
use Rattle.macro_text.specs.declared.macros.Macro.{Macro}

-- bytes of a replaced reference are left out
passed-drop : (lookup : List Macro) (passed : ℕ) (text : List ℕ) → expanded_behind lookup passed text ≡ expanded lookup (drop passed text)
unfolding expanded_behind expanded
passed-drop lookup zero text = refl
passed-drop lookup (suc passed) [] = refl
passed-drop lookup (suc passed) (c ∷ rest) = passed-drop lookup passed rest

-- one step of the definition
step : (lookup : List Macro) (c : ℕ) (rest : List ℕ) → expanded lookup (c ∷ rest) ≡ front_of lookup (c ∷ rest) ++ expanded lookup (drop (reference_len (c ∷ rest) - 1) rest)
unfolding expanded_behind expanded
step lookup c rest = ap (λ u. front_of lookup (c ∷ rest) ++ u) (passed-drop lookup (reference_len (c ∷ rest) - 1) rest)

-- what stands for the front
front-some : (lookup : List Macro) (text : List ℕ) → 0 < reference_len text → front_of lookup text ≡ value_of lookup (take (reference_len text) text)
unfolding front_of
front-some lookup text some = grind (arith, common_steps)

front-none : (lookup : List Macro) (text : List ℕ) → reference_len text ≡ 0 → front_of lookup text ≡ take 1 text
unfolding front_of
front-none lookup text none = grind (arith, common_steps)

-- a reference is replaced by its value
pub reference-front : (lookup : List Macro) (text : List ℕ) → 0 < reference_len text → expanded lookup text ≡ value_of lookup (take (reference_len text) text) ++ expanded lookup (drop (reference_len text) text)
reference-front lookup [] some = absurd (omega arith)
reference-front lookup (c ∷ rest) some =
    let e : suc (reference_len (c ∷ rest) - 1) ≡ reference_len (c ∷ rest) = omega arith in
    step lookup c rest
    ∙ ap (λ u. u ++ expanded lookup (drop (reference_len (c ∷ rest) - 1) rest)) (front-some lookup (c ∷ rest) some)
    ∙ ap (λ n. value_of lookup (take (reference_len (c ∷ rest)) (c ∷ rest)) ++ expanded lookup (drop n (c ∷ rest))) e

-- a byte that begins no reference stays
byte-front : (lookup : List Macro) (c : ℕ) (rest : List ℕ) → reference_len (c ∷ rest) ≡ 0 → expanded lookup (c ∷ rest) ≡ c ∷ expanded lookup rest
byte-front lookup c rest none =
    let e : reference_len (c ∷ rest) - 1 ≡ 0 = omega arith in
    step lookup c rest
    ∙ ap (λ u. u ++ expanded lookup (drop (reference_len (c ∷ rest) - 1) rest)) (front-none lookup (c ∷ rest) none)
    ∙ ap (λ n. c ∷ expanded lookup (drop n rest)) e

-- a byte that is no brace begins no reference
plain-none : (c : ℕ) (rest : List ℕ) → is_plain c ≡ true → reference_len (c ∷ rest) ≡ 0
plain-none c [] plain = refl
plain-none c (d ∷ rest) plain = grind (arith, common_steps)

-- one plain byte more stands before the next brace, and none behind a byte that is a brace
before-more : (c : ℕ) (rest : List ℕ) → is_plain c ≡ true → before_brace (c ∷ rest) ≡ suc (before_brace rest)
before-more c rest plain = grind (arith, common_steps)

before-none : (c : ℕ) (rest : List ℕ) → is_plain c ≡ false → before_brace (c ∷ rest) ≡ 0
before-none c rest brace = grind (arith, common_steps)

-- the text is its first bytes, as they are, and the rest replaced
abbrev Stays : List Macro → List ℕ → ℕ → Type 0
Stays lookup text n = expanded lookup text ≡ take n text ++ expanded lookup (drop n text)

-- bytes before the next brace stay
before-front : (lookup : List Macro) (text : List ℕ) → Stays lookup text (before_brace text)
before-front lookup [] = refl
before-front lookup (c ∷ rest) = go (cases_Bool (is_plain c)) (before-front lookup rest) where
  go : (is_plain c ≡ true) ⊎ (is_plain c ≡ false) → Stays lookup rest (before_brace rest) → Stays lookup (c ∷ rest) (before_brace (c ∷ rest))
  go (inl plain) behind = subst (λ n. Stays lookup (c ∷ rest) n) (sym (before-more c rest plain))
      (byte-front lookup c rest (plain-none c rest plain) ∙ ap (λ u. c ∷ u) behind)
  go (inr brace) behind = subst (λ n. Stays lookup (c ∷ rest) n) (sym (before-none c rest brace)) refl

-- where no reference begins, the first byte and those before the next brace stay
pub plain-front : (lookup : List Macro) (text : List ℕ) → reference_len text ≡ 0 → expanded lookup text ≡ take (plain_len text) text ++ expanded lookup (drop (plain_len text) text)
plain-front lookup [] none = refl
plain-front lookup (c ∷ rest) none =
    let e : suc (before_brace rest) ≡ 1 + before_brace rest = omega arith in
    subst (λ n. Stays lookup (c ∷ rest) n) e
    (byte-front lookup c rest none ∙ ap (λ u. c ∷ u) (before-front lookup rest))

-- nothing stands for nothing
pub none_left : (lookup : List Macro) (text : List ℕ) → length text ≡ 0 → expanded lookup text ≡ []
unfolding expanded expanded_behind
none_left lookup [] empty = refl
none_left lookup (c ∷ rest) empty = absurd (omega arith)

-- `{$` begins each reference
none-begins : (c : ℕ) (rest : List ℕ) → OpensNoReference (c ∷ rest) → reference_len (c ∷ rest) ≡ 0
none-begins c [] free = refl
none-begins c (d ∷ rest) free = go (cases_Bool (c == 123 && d == 36)) where
  go : ((c == 123 && d == 36) ≡ true) ⊎ ((c == 123 && d == 36) ≡ false) → reference_len (c ∷ d ∷ rest) ≡ 0
  go (inl opens) =
      let first : c ≡ 123 = grind (arith, common_steps, opens) in
      let second : d ≡ 36 = grind (arith, common_steps, opens) in
      absurd (free [] rest (ap (λ u. u ∷ d ∷ rest) first ∙ ap (λ u. 123 ∷ u ∷ rest) second))
  go (inr other) = grind (arith, common_steps, other)

-- a text in which `{$` stands nowhere stays
pub all_stays : (lookup : List Macro) (text : List ℕ) → OpensNoReference text → expanded lookup text ≡ text
all_stays lookup [] free = none_left lookup [] refl
all_stays lookup (c ∷ rest) free =
    byte-front lookup c rest (none-begins c rest free)
    ∙ ap (λ u. c ∷ u) (all_stays lookup rest (λ before behind e. free (c ∷ before) behind (ap (λ u. c ∷ u) e)))
