-- A link to a thing with a greater number lies on no cycle, where no link leads to a smaller one.
use Rattle.std.proofs.Common.{◌≡◌, ℕ, zero, suc, ◌<◌, ◌≤◌, Bool, true, false, List, [], ◌∷◌, ◌++◌, length, get_or, All, refl, ap, arith, ◌⊎◌, inl, inr}
use Rattle.std.specs.Prelude.{nat_eq}
use Rattle.std.specs.List.{list_any}
use Rattle.std.proofs.lemmas.Bool.{cases_lt, eqb-true}
use Rattle.std.proofs.lemmas.List.{get_or_past}
use Rattle.std.proofs.lemmas.List.Elements.{All-nil, All-cons, All-append, All-head, All-tail, All-same, All-weaker}
use Rattle.std.proofs.lemmas.List.Folds.{list_any_none}
use Rattle.dependency_graph.specs.Walks.{once, linked_by, walk, walked}
use Rattle.dependency_graph.specs.Cycles.{lies_on_cycle}
use Rattle.dependency_graph.specs.Tables.{NeverFall}
use Rattle.dependency_graph.proofs.Once.{All-once_behind}

-- the number of a thing isn't below this one
abbrev pub IsAbove : List ℕ → ℕ → ℕ → Type 0
IsAbove numbers least t = least ≤ get_or numbers t 0

above-linked : (links : List (List ℕ)) (numbers : List ℕ) (least t : ℕ) → NeverFall links numbers → IsAbove numbers least t → All (IsAbove numbers least) (get_or links t [])
above-linked links numbers least t falls above = go (cases_lt t (length links))
  where
    go : (t < length links) ⊎ (length links ≤ t) → All (IsAbove numbers least) (get_or links t [])
    go (inl within) = All-weaker (IsAbove numbers (get_or numbers t 0)) (IsAbove numbers least) (λ x h. omega (arith, h, above)) (get_or links t []) (falls t within)
    go (inr past) = All-same (IsAbove numbers least) (get_or links t []) [] (get_or_past links t [] past) (All-nil (IsAbove numbers least))

above-linked_by : (links : List (List ℕ)) (numbers : List ℕ) (least : ℕ) (ts : List ℕ) → NeverFall links numbers → All (IsAbove numbers least) ts → All (IsAbove numbers least) (linked_by links ts)
above-linked_by links numbers least [] falls all = All-nil (IsAbove numbers least)
above-linked_by links numbers least (t ∷ ts) falls all =
    All-append (IsAbove numbers least) (get_or links t []) (linked_by links ts)
    (above-linked links numbers least t falls (All-head (IsAbove numbers least) t ts all))
    (above-linked_by links numbers least ts falls (All-tail (IsAbove numbers least) t ts all))

above-walked : (links : List (List ℕ)) (numbers : List ℕ) (least levels : ℕ) (ts : List ℕ) → NeverFall links numbers → All (IsAbove numbers least) ts → All (IsAbove numbers least) (walked links levels ts)
above-walked links numbers least zero ts falls all = all
above-walked links numbers least (suc levels) ts falls all =
    above-walked links numbers least levels (once (ts ++ linked_by links ts)) falls
    (All-once_behind (IsAbove numbers least) [] (ts ++ linked_by links ts) (All-append (IsAbove numbers least) ts (linked_by links ts) all (above-linked_by links numbers least ts falls all)))

above-walk : (links : List (List ℕ)) (numbers : List ℕ) (least : ℕ) (ts : List ℕ) → NeverFall links numbers → All (IsAbove numbers least) ts → All (IsAbove numbers least) (walk links ts)
unfolding walk
above-walk links numbers least ts falls all = above-walked links numbers least (length links) (once ts) falls (All-once_behind (IsAbove numbers least) [] ts all)

-- a thing isn't among those with greater numbers
not_above : (numbers : List ℕ) (least t : ℕ) (ts : List ℕ) → get_or numbers t 0 < least → All (IsAbove numbers least) ts → list_any (nat_eq t) ts ≡ false
not_above numbers least t ts below all = list_any_none (nat_eq t) ts (All-weaker (IsAbove numbers least) (λ x. nat_eq t x ≡ false) (λ x h. other x h (nat_eq t x) refl) ts all)
  where
    other : (x : ℕ) → least ≤ get_or numbers x 0 → (b : Bool) → nat_eq t x ≡ b → nat_eq t x ≡ false
    other x h true e = absurd (let same : get_or numbers t 0 ≡ get_or numbers x 0 = ap (λ y. get_or numbers y 0) (eqb-true t x e) in let no : ⊥ = omega (arith, h, same, below) in no)
    other x h false e = e

pub off_cycle : (links : List (List ℕ)) (numbers : List ℕ) (from end : ℕ) → NeverFall links numbers → get_or numbers from 0 < get_or numbers end 0 → lies_on_cycle links from end ≡ false
off_cycle links numbers from end falls below =
    let P : ℕ → Type 0 = IsAbove numbers (get_or numbers end 0) in
    not_above numbers (get_or numbers end 0) from (walk links (end ∷ [])) below
    (above-walk links numbers (get_or numbers end 0) (end ∷ []) falls (All-cons P end [] (omega arith) (All-nil P)))
