-- Where each link leads to a lower rank, none lies on a cycle.
use Rattle.std.proofs.Common.{◌≡◌, ℕ, zero, suc, ◌+◌, ◌<◌, ◌≤◌, Bool, true, false, List, [], ◌∷◌, ◌++◌, length, take, drop, get_or, map, All, Some, None, refl, ap, sym, ◌∙◌, subst, arith, append-nil, ◌⊎◌, inl, inr}
use Rattle.std.specs.Prelude.{codes, nat_eq, if◌then◌else◌}
use Rattle.std.specs.Fmt.{decimal}
use Rattle.std.specs.Option.{option_to_list, option_or}
use Rattle.std.specs.List.{list_any}
use Rattle.std.proofs.lemmas.Bool.{cases_lt, eqb-true}
use Rattle.std.proofs.lemmas.List.{take_at, drop_at, get_or_past, get_or-map}
use Rattle.std.proofs.lemmas.List.Elements.{All-nil, All-append, All-head, All-tail, All-take, All-drop, All-same, All-weaker}
use Rattle.std.proofs.lemmas.List.Folds.{list_any_none}
use Rattle.zbx_types.specs.declared.causes.Cause.TheVariants.{Cycle}
use Rattle.dependency_graph.specs.Walks.{once, linked_by, walk, walked}
use Rattle.dependency_graph.proofs.Once.{All-once_behind}
use Rattle.config_read.specs.declared.raw.RawHost.{RawHost}
use Rattle.host_layout.specs.Places.{Placed, placed_from, placed, fault_or, first_fault}
use Rattle.host_layout.specs.Links.{template_named, templates_named, links_of, placed_links, cycle_link}
use Rattle.host_layout.specs.Tables.{Falls}
use Rattle.host_layout.proofs.LinkFaults.{link_of, links_from}
use Rattle.host_layout.proofs.LinkLemmas.{links_of-length}
use Rattle.host_layout.proofs.FirstFaults.{first_fault-append}
use Rattle.host_layout.proofs.PlacedElements.{placed_at}

-- the rank of a template is below this one
abbrev pub IsLower : List ℕ → ℕ → ℕ → Type 0
IsLower ranks rank t = get_or ranks t 0 < rank

All-front : (P : ℕ → Type 0) (xs ys : List ℕ) → All P (xs ++ ys) → All P xs
All-front P xs ys all = All-same P xs (take (length xs) (xs ++ ys)) (sym (take_at xs ys (length xs) refl)) (All-take P (length xs) (xs ++ ys) all)

All-back : (P : ℕ → Type 0) (xs ys : List ℕ) → All P (xs ++ ys) → All P ys
All-back P xs ys all = All-same P ys (drop (length xs) (xs ++ ys)) (sym (drop_at xs ys (length xs) refl)) (All-drop P (length xs) (xs ++ ys) all)

-- what a lower one leads to is lower
lower-linked : (links : List (List ℕ)) (ranks : List ℕ) (rank t : ℕ) → Falls links ranks → IsLower ranks rank t → All (IsLower ranks rank) (get_or links t [])
lower-linked links ranks rank t fall lower = go (cases_lt t (length links))
  where
    go : (t < length links) ⊎ (length links ≤ t) → All (IsLower ranks rank) (get_or links t [])
    go (inl within) = All-weaker (IsLower ranks (get_or ranks t 0)) (IsLower ranks rank) (λ x h. omega (arith, h, lower)) (get_or links t []) (fall t within)
    go (inr past) = All-same (IsLower ranks rank) (get_or links t []) [] (get_or_past links t [] past) (All-nil (IsLower ranks rank))

lower-linked_by : (links : List (List ℕ)) (ranks : List ℕ) (rank : ℕ) (ts : List ℕ) → Falls links ranks → All (IsLower ranks rank) ts → All (IsLower ranks rank) (linked_by links ts)
lower-linked_by links ranks rank [] fall all = All-nil (IsLower ranks rank)
lower-linked_by links ranks rank (t ∷ ts) fall all =
    All-append (IsLower ranks rank) (get_or links t []) (linked_by links ts)
    (lower-linked links ranks rank t fall (All-head (IsLower ranks rank) t ts all))
    (lower-linked_by links ranks rank ts fall (All-tail (IsLower ranks rank) t ts all))

lower-walked : (links : List (List ℕ)) (ranks : List ℕ) (rank levels : ℕ) (ts : List ℕ) → Falls links ranks → All (IsLower ranks rank) ts → All (IsLower ranks rank) (walked links levels ts)
lower-walked links ranks rank zero ts fall all = all
lower-walked links ranks rank (suc levels) ts fall all =
    lower-walked links ranks rank levels (once (ts ++ linked_by links ts)) fall
    (All-once_behind (IsLower ranks rank) [] (ts ++ linked_by links ts) (All-append (IsLower ranks rank) ts (linked_by links ts) all (lower-linked_by links ranks rank ts fall all)))

lower-walk : (links : List (List ℕ)) (ranks : List ℕ) (rank : ℕ) (ts : List ℕ) → Falls links ranks → All (IsLower ranks rank) ts → All (IsLower ranks rank) (walk links ts)
unfolding walk
lower-walk links ranks rank ts fall all = lower-walked links ranks rank (length links) (once ts) fall (All-once_behind (IsLower ranks rank) [] ts all)

-- a template isn't among those with lower ranks
not_lower : (ranks : List ℕ) (t : ℕ) (ts : List ℕ) → All (IsLower ranks (get_or ranks t 0)) ts → list_any (nat_eq t) ts ≡ false
not_lower ranks t ts all = list_any_none (nat_eq t) ts (All-weaker (IsLower ranks (get_or ranks t 0)) (λ x. nat_eq t x ≡ false) (λ x h. other x h (nat_eq t x) refl) ts all)
  where
    other : (x : ℕ) → get_or ranks x 0 < get_or ranks t 0 → (b : Bool) → nat_eq t x ≡ b → nat_eq t x ≡ false
    other x h true e = absurd (let same : get_or ranks t 0 ≡ get_or ranks x 0 = ap (λ y. get_or ranks y 0) (eqb-true t x e) in let no : ⊥ = omega (arith, h, same) in no)
    other x h false e = e

-- links to lower ones lie on no cycle
links_fall : (templates : List RawHost) (ranks : List ℕ) (s : Placed RawHost) (path : List ℕ) (at : ℕ) (names : List (List ℕ)) → Falls (links_of templates) ranks
    → All (IsLower ranks (get_or ranks s.place 0)) (templates_named templates names) → first_fault (cycle_link templates) (placed_from path at (map (link_of s) names)) ≡ None
links_fall templates ranks s path at [] fall all = refl
links_fall templates ranks s path at (name ∷ names) fall all =
    let P : ℕ → Type 0 = IsLower ranks (get_or ranks s.place 0) in
    let first = option_to_list (template_named templates name) in
    let lower : All P (first ++ []) = All-same P (first ++ []) first (append-nil first) (All-front P first (templates_named templates names) all) in
    let none : cycle_link templates (link_of s name) ≡ None =
    ap (λ b. if b then Some Cycle else None) (not_lower ranks s.place (walk (links_of templates) (first ++ [])) (lower-walk (links_of templates) ranks (get_or ranks s.place 0) (first ++ []) fall lower)) in
    ap (λ c. fault_or c (path ++ codes "/" ++ decimal at) (first_fault (cycle_link templates) (placed_from path (at + 1) (map (link_of s) names)))) none
    ∙ links_fall templates ranks s path (at + 1) names fall (All-back P first (templates_named templates names) all)

-- sources whose links all lead to lower ones
sources_fall : (templates : List RawHost) (ranks : List ℕ) (path : List ℕ) (place : ℕ) (bodies : List RawHost) → Falls (links_of templates) ranks
    → ((i : ℕ) (d : RawHost) → i < length bodies → All (IsLower ranks (get_or ranks (place + i) 0)) (templates_named templates (get_or bodies i d).templates))
    → first_fault (cycle_link templates) (placed_links (placed_from path place bodies)) ≡ None
sources_fall templates ranks path place [] fall all = refl
sources_fall templates ranks path place (body ∷ bodies) fall all =
    let p = placed_at path place body in
    let P : ℕ → Type 0 = λ n. All (IsLower ranks (get_or ranks n 0)) (templates_named templates body.templates) in
    let e : place + 0 ≡ place = omega arith in
    first_fault-append (cycle_link templates) (links_from p 0) (placed_links (placed_from path (place + 1) bodies))
    ∙ ap (λ f. option_or f (first_fault (cycle_link templates) (placed_links (placed_from path (place + 1) bodies))))
    (links_fall templates ranks p (p.path ++ codes "/templates") 0 body.templates fall (subst P e (all 0 body (omega arith))))
    ∙ sources_fall templates ranks path (place + 1) bodies fall
    (λ i d within.
    let shift : place + suc i ≡ place + 1 + i = omega arith in
    let Q : ℕ → Type 0 = λ n. All (IsLower ranks (get_or ranks n 0)) (templates_named templates (get_or bodies i d).templates) in
    subst Q shift (all (suc i) d (omega (arith, within))))

-- no link lies on a cycle
pub none_on_cycle : (templates : List RawHost) (links : List (List ℕ)) (ranks : List ℕ) → links ≡ links_of templates → Falls links ranks
    → first_fault (cycle_link templates) (placed_links (placed (codes "/templates") templates)) ≡ None
none_on_cycle templates links ranks e falls =
    let F : List (List ℕ) → Type 0 = λ ls. Falls ls ranks in
    let fall : Falls (links_of templates) ranks = subst F e falls in
    sources_fall templates ranks (codes "/templates") 0 templates fall
    (λ i d within.
    let size : length (links_of templates) ≡ length templates = links_of-length templates (links_of templates) refl in
    let zero_i : i ≡ 0 + i = omega arith in
    let P : ℕ → List ℕ → Type 0 = λ n ts. All (IsLower ranks (get_or ranks n 0)) ts in
    subst (λ (n : ℕ). P n (templates_named templates (get_or templates i d).templates)) zero_i
    (subst (P i) (get_or-map (λ t. templates_named templates t.templates) templates i d [] within) (fall i (omega (arith, within, size)))))
