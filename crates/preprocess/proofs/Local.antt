-- What an entry's value leaves hangs on the items that it visits alone.
use Rattle.std.proofs.Common.{◌≡◌, ◌≤◌, ◌==◌, ◌-◌, ◌+◌, ℕ, zero, suc, List, [], ◌∷◌, ◌++◌, length, flat_map, filter_map, Bool, true, false, cond, true≢false, Option, Some, None, option_map, option_to_list, refl, ap, sym, ◌∙◌, subst, arith, eqb-true}
use Rattle.std.specs.List.{cons_option, AllByRecursion}
use Rattle.zbx_types.specs.Ids.{at_id}
use Rattle.zbx_types.specs.declared.conf.Conf.{Conf}
use Rattle.zbx_types.specs.declared.items.Item.{Item}
use Rattle.preprocess.specs.Chains.{dependents_of}
use Rattle.preprocess.specs.Visits.{Arrival, chained_by, visit_of, visited, visits_of}
use Rattle.preprocess.specs.Walks.{own_visit, given, with_text, walk, takes}
use Rattle.preprocess.specs.Draft.{visit_at}
use Rattle.preprocess.specs.declared.chain.Chained.{Chained}
use Rattle.preprocess.specs.declared.visit.Visit.{Visit}
use Rattle.preprocess.proofs.Visiting.{Memory, found, each_dependent, visits_is, first_taken, first_refused}
use Rattle.preprocess.proofs.Apart.{Under, under_more, dependent_under, all_map, all_flat, found_at}

-- ---- the same visits over memories that agree on what is visited

flat_same : (f g : ℕ → List Visit) (V : ℕ → List ℕ) (P : ℕ → Type 0) (cs : List ℕ) → ((c : ℕ) → AllByRecursion P (V c) → f c ≡ g c) → AllByRecursion P (flat_map V cs) → flat_map f cs ≡ flat_map g cs
flat_same f g V P [] h all = refl
flat_same f g V P (c ∷ cs) h all =
    let parts = split (V c) (flat_map V cs) all in
    ap (λ xs. xs ++ flat_map f cs) (h c parts.0) ∙ ap (λ xs. g c ++ xs) (flat_same f g V P cs h parts.1)
  where
    split : (xs ys : List ℕ) → AllByRecursion P (xs ++ ys) → AllByRecursion P xs × AllByRecursion P ys
    split [] ys all = (tt, all)
    split (x ∷ xs) ys all = let r = split xs ys all.1 in ((all.0, r.0), r.1)

own_same : (conf : Conf) (a b : Memory) (time number id : ℕ) (value : List ℕ) → a id ≡ b id → own_visit conf a time number id value ≡ own_visit conf b time number id value
own_same conf a b time number id value e = ap (λ m. option_to_list (option_map (visit_of time number id) (chained_by m time (at_id conf.items id) (Some value)))) e

given_same : (conf : Conf) (a b : Memory) (time id : ℕ) (value : List ℕ) → a id ≡ b id → given conf a time id value ≡ given conf b time id value
given_same conf a b time id value e = ap (λ m. Rattle.preprocess.specs.Visits.text_of (chained_by m time (at_id conf.items id) (Some value))) e

with_same : (f g : List ℕ → List Visit) (o : Option (List ℕ)) → ((text : List ℕ) → f text ≡ g text) → with_text f o ≡ with_text g o
with_same f g None h = refl
with_same f g (Some text) h = h text

walk_same : (conf : Conf) (a b : Memory) (time number down id : ℕ) (value : List ℕ) → AllByRecursion (λ j. a j ≡ b j) (visited conf down id) → walk conf a time number down id value ≡ walk conf b time number down id value
unfolding walk visited
walk_same conf a b time number zero id value all = own_same conf a b time number id value all.0
walk_same conf a b time number (suc down) id value all =
    let below : (m : Memory) → List ℕ → List Visit = λ m text. flat_map (λ d. walk conf m time number down d text) (dependents_of conf id) in
    ap (λ xs. xs ++ with_text (below a) (given conf a time id value)) (own_same conf a b time number id value all.0)
    ∙ ap (λ o. own_visit conf b time number id value ++ with_text (below a) o) (given_same conf a b time id value all.0)
    ∙ ap (λ xs. own_visit conf b time number id value ++ xs) (with_same (below a) (below b) (given conf b time id value)
    (λ text. flat_same (λ d. walk conf a time number down d text) (λ d. walk conf b time number down d text) (visited conf down) (λ j. a j ≡ b j) (dependents_of conf id) (λ c h. walk_same conf a b time number down c text h) all.1))

-- what is visited by a value: the item and what is below it, where the item takes values
pub visits_same : (conf : Conf) (a b : Memory) (arrival : Arrival) → (takes conf arrival.item ≡ true → AllByRecursion (λ j. a j ≡ b j) (visited conf (length conf.items - 1) arrival.item)) → visits_of conf a arrival ≡ visits_of conf b arrival
visits_same conf a b arrival h = go (takes conf arrival.item) refl
  where
    go : (t : Bool) → takes conf arrival.item ≡ t → visits_of conf a arrival ≡ visits_of conf b arrival
    go true t = sym (first_taken conf a arrival t) ∙ walk_same conf a b arrival.time arrival.number (length conf.items - 1) arrival.item arrival.value (h t) ∙ first_taken conf b arrival t
    go false t = sym (first_refused conf a arrival t) ∙ first_refused conf b arrival t

-- ---- each visit is of an item that is visited

found_all : (P : ℕ → Type 0) (g : ℕ → Option Visit) → ((x : ℕ) (v : Visit) → g x ≡ Some v → v.item ≡ x) → (xs : List ℕ) → AllByRecursion P xs → AllByRecursion (λ v. P v.item) (filter_map g xs)
found_all P g h [] all = tt
found_all P g h (x ∷ xs) all = go (g x) refl (found_all P g h xs all.1)
  where
    go : (o : Option Visit) → g x ≡ o → AllByRecursion (λ v. P v.item) (filter_map g xs) → AllByRecursion (λ v. P v.item) (cons_option o (filter_map g xs))
    go None e rest = rest
    go (Some v) e rest = (subst P (sym (h x v e)) all.0, rest)

pub visits_all : (P : ℕ → Type 0) (conf : Conf) (memory : Memory) (arrival : Arrival) → (takes conf arrival.item ≡ true → AllByRecursion P (visited conf (length conf.items - 1) arrival.item)) → AllByRecursion (λ v. P v.item) (visits_of conf memory arrival)
visits_all P conf memory arrival h = go (takes conf arrival.item) refl
  where
    go : (t : Bool) → takes conf arrival.item ≡ t → AllByRecursion (λ v. P v.item) (visits_of conf memory arrival)
    go true t = subst (AllByRecursion (λ v. P v.item)) (sym (visits_is conf memory arrival)) (found_all P (found conf memory arrival) (found_at conf memory arrival) (visited conf (length conf.items - 1) arrival.item) (h t))
    go false t = subst (AllByRecursion (λ v. P v.item)) (first_refused conf memory arrival t) tt

-- so an item that no visit is of has none
pub visit_off : (test : ℕ → Bool) (visits : List Visit) (i : ℕ) → AllByRecursion (λ v. test v.item ≡ true) visits → test i ≡ false → visit_at visits i ≡ None
visit_off test [] i all f = refl
visit_off test (v ∷ visits) i all f = go (v.item == i) refl (visit_off test visits i all.1 f)
  where
    go : (b : Bool) → (v.item == i) ≡ b → visit_at visits i ≡ None → cond b (Some v) (visit_at visits i) ≡ None
    go true e ih = absurd (true≢false (sym all.0 ∙ ap test (eqb-true v.item i e) ∙ f))
    go false e ih = ih

-- ---- what is visited is below the item

-- an item stands at most so many dependences below another one
abbrev pub Below : Conf → ℕ → ℕ → ℕ → Type 0
Below conf most top x = (s : ℕ) × (s ≤ most) × Under conf s top x

pub visited_below : (conf : Conf) (f id : ℕ) → AllByRecursion (Below conf f id) (visited conf f id)
unfolding visited
visited_below conf zero id = ((0, omega arith, refl), tt)
visited_below conf (suc f) id = (
  (0, omega arith, refl),
  all_flat (Below conf (suc f) id) (visited conf f) (dependents_of conf id) (each_dependent _ conf id (λ c item at dep.
      all_map (Below conf f c) (Below conf (suc f) id) (λ x p. (suc p.0, omega (arith, p.1), under_more conf p.0 id c x (dependent_under conf id c item at dep) p.2)) (visited conf f c) (visited_below conf f c))),
)
