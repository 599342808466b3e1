-- Laws of numbered groups.
use Rattle.std.proofs.Common.{◌≡◌, ℕ, ◌+◌, Result, List, [], ◌∷◌, ◌++◌, length, suc, refl, ap, ap₂, sym, ◌∙◌, arith, append-nil, append_assoc, length-append}
use Rattle.std.proofs.lemmas.Grind.{flat_map-append}
use Rattle.zbx_types.specs.declared.entries.Entry.{Entry}
use Rattle.zbx_types.specs.declared.entries.Numbered.{Numbered}
use Rattle.intake_front.specs.Taking.{entry_in, group_by, taken_by}
use Rattle.intake_front.specs.declared.gathering.Taken.{Taken}
use Rattle.intake_front.specs.declared.refusal.ValueRefusal.{ValueRefusal}
use Rattle.intake_front.specs.Intake.{numbered_from, with_group}

pub length_numbered : (n : ℕ) (group : List Entry) → length (numbered_from n group) ≡ length group
length_numbered n [] = refl
length_numbered n (e ∷ rest) = ap (λ k. suc k) (length_numbered (n + 1) rest)

-- a group behind another one goes on with its numbers
pub numbered-append : (n : ℕ) (a b : List Entry) → numbered_from n (a ++ b) ≡ numbered_from n a ++ numbered_from (n + length a) b
numbered-append n [] b = ap (λ k. numbered_from k b) (omega arith)
numbered-append n (e ∷ a) b =
    let next : n + 1 + length a ≡ n + length (e ∷ a) = omega arith in
    ap (λ t. record { number = n; entry = e } ∷ t) (numbered-append (n + 1) a b ∙ ap (λ k. numbered_from (n + 1) a ++ numbered_from k b) next)

module _ {A : Type 0} (taken : A → Result Entry ValueRefusal) where
  pub group_none : group_by taken [] ≡ []
  group_none = refl

  -- one more asked value
  pub group_more : (made new : List Entry) (asked : List A) (one : A)
      → made ≡ group_by taken asked
      → new ≡ made ++ entry_in (taken one)
      → new ≡ group_by taken (asked ++ one ∷ [])
  group_more made new asked one is more =
      let behind = entry_in (taken one) in
      let all : group_by taken (asked ++ one ∷ []) ≡ group_by taken asked ++ behind = flat_map-append _ asked (one ∷ []) ∙ ap (λ t. group_by taken asked ++ t) (append-nil behind) in
      more ∙ ap (λ t. t ++ behind) is ∙ sym all

-- one more value
pub taken_more : {A : Type 0} (taken : A → Result Entry ValueRefusal) (old new : Taken) (asked : List A) (one : A) → old ≡ taken_by taken asked
    → new.group ≡ old.group ++ entry_in (taken one) → new.total ≡ old.total + 1 → new ≡ taken_by taken (asked ++ one ∷ [])
taken_more taken old new asked one is more count =
    let group : new.group ≡ group_by taken (asked ++ one ∷ []) = group_more taken old.group new.group asked one (ap (λ t. t.group) is) more in
    let total : new.total ≡ length (asked ++ one ∷ []) = omega (arith, count, ap (λ t. t.total) is, length-append asked (one ∷ [])) in
    ap₂ (λ g n. record { group = g; total = n }) group total

-- one more entry of a group behind others
pub numbered_more : (first number : ℕ) (before made new : List Numbered) (group : List Entry) (e : Entry) → made ≡ before ++ numbered_from (first + length before) group → number ≡ first + length made
    → new ≡ made ++ record { number = number; entry = e } ∷ [] → new ≡ before ++ numbered_from (first + length before) (group ++ e ∷ [])
numbered_more first number before made new group e is at more =
    let start = first + length before in
    let count : number ≡ start + length group = omega (arith, at, ap length is, length-append before (numbered_from start group), length_numbered start group) in
    more ∙ ap (λ (n : ℕ). made ++ record { number = n; entry = e } ∷ []) count ∙ ap (λ (l : List Numbered). l ++ record { number = start + length group; entry = e } ∷ []) is
    ∙ append_assoc before (numbered_from start group) (record { number = start + length group; entry = e } ∷ [])
    ∙ ap (λ (l : List Numbered). before ++ l) (sym (numbered-append start group (e ∷ [])))

-- a group whose first entry was moved behind entries
pub group_step : (before : ℕ) (entries new : List Numbered) (number : ℕ) (e : Entry) (rest group : List Entry) → group ≡ e ∷ rest → number ≡ before + length entries + 1 → new ≡ entries ++ record { number = number; entry = e } ∷ []
    → with_group before new rest ≡ with_group before entries group
group_step before entries new number e rest group is at more =
    let one : Numbered = record { number = before + length entries + 1; entry = e } in
    let there : new ≡ entries ++ one ∷ [] = more ∙ ap (λ (n : ℕ). entries ++ record { number = n; entry = e } ∷ []) at in
    let next : before + length (entries ++ one ∷ []) + 1 ≡ before + length entries + 1 + 1 = omega (arith, length-append entries (one ∷ [])) in
    ap (λ (es : List Numbered). with_group before es rest) there ∙ ap (λ (n : ℕ). (entries ++ one ∷ []) ++ numbered_from n rest) next ∙ append_assoc entries (one ∷ []) (numbered_from (before + length entries + 1 + 1) rest)
    ∙ ap (with_group before entries) (sym is)

-- two groups, one numbered behind the other
pub both_from : (first : ℕ) (none one both : List Numbered) (a b : List Entry) → none ≡ [] → one ≡ none ++ numbered_from (first + length none) a → both ≡ one ++ numbered_from (first + length one) b → both ≡ numbered_from first (a ++ b)
both_from first none one both a b empty is behind =
    let start : first + length none ≡ first = omega (arith, ap length empty) in
    let there : one ≡ numbered_from first a = is ∙ ap (λ (l : List Numbered). l ++ numbered_from (first + length none) a) empty ∙ ap (λ (n : ℕ). numbered_from n a) start in
    let next : first + length one ≡ first + length a = omega (arith, ap length there, length_numbered first a) in
    behind ∙ ap (λ (l : List Numbered). l ++ numbered_from (first + length one) b) there ∙ ap (λ (n : ℕ). numbered_from first a ++ numbered_from n b) next ∙ sym (numbered-append first a b)
