-- What is open behind records is open again behind those that a base tells of it.
use Rattle.std.proofs.Common.{◌≡◌, ℕ, ◌==◌, Bool, true, false, cond, not, ◌&&◌, ◌||◌, ◌⊎◌, inl, inr, List, [], ◌∷◌, ◌++◌, map, filter, flat_map, refl, sym, ◌∙◌, ap, ap₂, subst, append_assoc, append-nil, eqb-true, eq-eqb, ne_eqb}
use Rattle.std.specs.List.{list_any}
use Rattle.zbx_types.specs.Records.{same_event, event_of}
use Rattle.zbx_types.specs.declared.entries.EventId.{EventId}
use Rattle.zbx_types.specs.declared.entries.Rec.{Rec}
use Rattle.zbx_types.specs.declared.entries.Rec.TheVariants.{Failure, Problem, Recovery, Step, Message}
use Rattle.conf_index.specs.Order.{order}
use Rattle.trigger_state.specs.Stages.{Stage, home}
use Rattle.trigger_state.specs.Problems.{event_in, opens, recovers, is_step_of, is_before, with_step, steps_from, steps_of, opened, open_of}
use Rattle.trigger_state.specs.declared.problems.Open.{Open}
use Rattle.entry_step.specs.Due.{by_making}
use Rattle.entry_step.specs.Each.{Each, In, EachPair}
use Rattle.entry_step.specs.Making.{is_problem}
use Rattle.entry_step.specs.Order.{by_event}
use Rattle.entry_step.specs.Represents.{AllAtHome, AllTagged}
use Rattle.entry_laws.specs.Rising.{StandsBehind}
use Rattle.entry_step.proofs.Making.{Once}
use Rattle.entry_step.proofs.Members.{each_append, each_sub, filter-append, filter_none}
use Rattle.entry_step.proofs.Problems.{open_append, home_all}
use Rattle.entry_step.proofs.Replays.{once_order, stands}
use Rattle.entry_step.proofs.Sorting.{by_event_filter}
use Rattle.entry_laws.proofs.Runs.{same_is, same_self, Differ, making_differ, making_each}
use Rattle.base_laws.specs.Alike.{unranked}
use Rattle.base_laws.specs.Bases.{told_ran, read_ran, told_problem, read_problem}
use Rattle.base_laws.specs.Sound.{AreInOrder}
use Rattle.base_laws.proofs.Making.{stays_in_order}
use Rattle.base_laws.proofs.Steps.{Ordered, with_each, with_ordered}

-- what a search finds is at home
pub homes_kept : (stage : Stage) (rs : List Rec) (id : ℕ) → AllAtHome stage id (open_of stage rs id)
homes_kept stage rs id = subst (AllAtHome stage id) (sym (open_append stage id [] rs)) (home_all stage id [] rs tt)

-- a step of an event
abbrev pub IsOwn : EventId → Rec → Type 0
IsOwn e (Step event action step now) = event ≡ e
IsOwn e (Failure number host key why) = ⊥
IsOwn e (Problem event now severity suppressed host trigger name tags) = ⊥
IsOwn e (Recovery event by now cause) = ⊥
IsOwn e (Message event action step recipient subject body) = ⊥

-- The steps that are kept of a problem are its own, and in the order of their actions
steps_ordered : (e : EventId) (steps rs : List Rec) → Ordered steps → Each (IsOwn e) steps → Ordered (steps_from e steps rs) × Each (IsOwn e) (steps_from e steps rs)
steps_ordered e steps [] o h = (o, h)
steps_ordered e steps (r ∷ rs) o h = go (is_step_of e r) refl (λ more p q. steps_ordered e more rs p q)
  where
    own : (x : Rec) → is_step_of e x ≡ true → IsOwn e x
    own (Step event action step now) q = sym (same_is e event q)
    own (Failure number host key why) q = cc
    own (Problem event now severity suppressed host trigger name tags) q = cc
    own (Recovery event by now cause) q = cc
    own (Message event action step recipient subject body) q = cc

    go : (b : Bool) → is_step_of e r ≡ b → ((more : List Rec) → Ordered more → Each (IsOwn e) more → Ordered (steps_from e more rs) × Each (IsOwn e) (steps_from e more rs))
        → Ordered (steps_from e (cond b (with_step steps r) steps) rs) × Each (IsOwn e) (steps_from e (cond b (with_step steps r) steps) rs)
    go true q ih = ih (with_step steps r) (with_ordered steps r o) (with_each (IsOwn e) steps r h (own r q))
    go false q ih = ih steps o h

-- an open problem as a search finds it
pub record IsOpened (o : Open) : Type 0 where
  pub problem : is_problem o.problem ≡ true
  pub ordered : Ordered o.steps
  pub own : Each (IsOwn (event_in o)) o.steps

opens_problem : (stage : Stage) (id : ℕ) (r : Rec) → opens stage id r ≡ true → is_problem r ≡ true
opens_problem stage id (Problem event now severity suppressed host trigger name tags) q = refl
opens_problem stage id (Failure number host key why) q = cc
opens_problem stage id (Recovery event by now cause) q = cc
opens_problem stage id (Step event action step now) q = cc
opens_problem stage id (Message event action step recipient subject body) q = cc

pub all_opened : (stage : Stage) (rs : List Rec) (id : ℕ) → Each IsOpened (open_of stage rs id)
all_opened stage [] id = tt
all_opened stage (r ∷ rs) id = go (opens stage id r) refl (not (list_any (recovers (event_of r)) rs)) (all_opened stage rs id)
  where
    go : (a : Bool) → opens stage id r ≡ a → (b : Bool) → Each IsOpened (open_of stage rs id) → Each IsOpened (cond (a && b) (opened stage r rs ∷ open_of stage rs id) (open_of stage rs id))
    go true q true ih =
        let steps = steps_ordered (event_of r) [] rs tt tt in
        (record { problem = opens_problem stage id r q; ordered = steps.0; own = steps.1 }, ih)
    go true q false ih = ih
    go false q b ih = ih

-- what is told of an open problem
abbrev pub told : Open → List Rec
told o = o.problem ∷ o.steps

read_again : (e : EventId) (steps : List Rec) → Each (IsOwn e) steps → map (read_ran e) (map told_ran steps) ≡ steps
read_again e [] h = refl
read_again e (r ∷ rs) h = ap₂ (λ x xs. x ∷ xs) (one r h.0) (read_again e rs h.1)
  where
    one : (x : Rec) → IsOwn e x → read_ran e (told_ran x) ≡ x
    one (Step event action step now) q = ap (λ v. Step v action step now) (sym q)
    one (Failure number host key why) q = absurd q
    one (Problem event now severity suppressed host trigger name tags) q = absurd q
    one (Recovery event by now cause) q = absurd q
    one (Message event action step recipient subject body) q = absurd q

pub told_again : (os : List Open) → Each IsOpened os → flat_map read_problem (map told_problem os) ≡ flat_map told os
told_again [] h = refl
told_again (o ∷ os) h = ap₂ (λ steps rest. o.problem ∷ (steps ++ rest)) (read_again (event_in o) o.steps h.0.own) (told_again os h.1)

-- The search over what is told
own_recovers : (v e : EventId) (steps ys : List Rec) → Each (IsOwn e) steps → list_any (recovers v) (steps ++ ys) ≡ list_any (recovers v) ys
own_recovers v e [] ys h = refl
own_recovers v e (r ∷ rs) ys h = ap (λ b. b || list_any (recovers v) (rs ++ ys)) (one r h.0) ∙ own_recovers v e rs ys h.1
  where
    one : (x : Rec) → IsOwn e x → recovers v x ≡ false
    one (Step event action step now) q = refl
    one (Failure number host key why) q = refl
    one (Problem event now severity suppressed host trigger name tags) q = refl
    one (Recovery event by now cause) q = absurd q
    one (Message event action step recipient subject body) q = refl

no_recovery : (v : EventId) (r : Rec) → is_problem r ≡ true → recovers v r ≡ false
no_recovery v (Problem event now severity suppressed host trigger name tags) q = refl
no_recovery v (Failure number host key why) q = refl
no_recovery v (Recovery event by now cause) q = cc
no_recovery v (Step event action step now) q = refl
no_recovery v (Message event action step recipient subject body) q = refl

none_recovers : (v : EventId) (os : List Open) → Each IsOpened os → list_any (recovers v) (flat_map told os) ≡ false
none_recovers v [] h = refl
none_recovers v (o ∷ os) h =
    ap (λ b. b || list_any (recovers v) (o.steps ++ flat_map told os)) (no_recovery v o.problem h.0.problem)
    ∙ own_recovers v (event_in o) o.steps (flat_map told os) h.0.own ∙ none_recovers v os h.1

is_own_step : (v e : EventId) (r : Rec) → IsOwn e r → is_step_of v r ≡ same_event v e
is_own_step v e (Step event action step now) q = ap (same_event v) q
is_own_step v e (Failure number host key why) q = absurd q
is_own_step v e (Problem event now severity suppressed host trigger name tags) q = absurd q
is_own_step v e (Recovery event by now cause) q = absurd q
is_own_step v e (Message event action step recipient subject body) q = absurd q

-- steps of other events
other_steps : (v e : EventId) → same_event v e ≡ false → (acc steps ys : List Rec) → Each (IsOwn e) steps → steps_from v acc (steps ++ ys) ≡ steps_from v acc ys
other_steps v e q acc [] ys h = refl
other_steps v e q acc (r ∷ rs) ys h = ap (λ b. steps_from v (cond b (with_step acc r) acc) (rs ++ ys)) (is_own_step v e r h.0 ∙ q) ∙ other_steps v e q acc rs ys h.1

no_step : (v : EventId) (r : Rec) → is_problem r ≡ true → is_step_of v r ≡ false
no_step v (Problem event now severity suppressed host trigger name tags) q = refl
no_step v (Failure number host key why) q = refl
no_step v (Recovery event by now cause) q = refl
no_step v (Step event action step now) q = cc
no_step v (Message event action step recipient subject body) q = refl

none_steps : (v : EventId) (acc : List Rec) (os : List Open) → Each IsOpened os → Each (λ o. same_event v (event_in o) ≡ false) os → steps_from v acc (flat_map told os) ≡ acc
none_steps v acc [] h d = refl
none_steps v acc (o ∷ os) h d =
    ap (λ b. steps_from v (cond b (with_step acc o.problem) acc) (o.steps ++ flat_map told os)) (no_step v o.problem h.0.problem)
    ∙ other_steps v (event_in o) d.0 acc o.steps (flat_map told os) h.0.own ∙ none_steps v acc os h.1 d.1

-- own steps, in the order of their actions
with_last : (acc : List Rec) (s : Rec) → Each (λ a. is_before a s ≡ true) acc → with_step acc s ≡ acc ++ s ∷ []
with_last [] s h = refl
with_last (a ∷ acc) s h = rw h.0 (ap (λ xs. a ∷ xs) (with_last acc s h.1))

abbrev Below : List Rec → List Rec → Type 0
Below xs acc = Each (λ a. Each (λ y. is_before a y ≡ true) xs) acc

own_steps : (v : EventId) (acc xs ys : List Rec) → Each (IsOwn v) xs → Ordered xs → Below xs acc → steps_from v acc (xs ++ ys) ≡ steps_from v (acc ++ xs) ys
own_steps v acc [] ys h o b = ap (λ zs. steps_from v zs ys) (sym (append-nil acc))
own_steps v acc (x ∷ xs) ys h o b =
    ap (λ t. steps_from v (cond t (with_step acc x) acc) (xs ++ ys)) (is_own_step v v x h.0 ∙ same_self v)
    ∙ ap (λ zs. steps_from v zs (xs ++ ys)) (with_last acc x (each_sub (λ a. Each (λ y. is_before a y ≡ true) (x ∷ xs)) (λ a. is_before a x ≡ true) acc (λ a k. k.0) b))
    ∙ own_steps v (acc ++ x ∷ []) xs ys h.1 o.1
    (each_append (λ a. Each (λ y. is_before a y ≡ true) xs) acc (x ∷ []) (each_sub (λ a. Each (λ y. is_before a y ≡ true) (x ∷ xs)) (λ a. Each (λ y. is_before a y ≡ true) xs) acc (λ a k. k.1) b) (o.0, tt))
    ∙ ap (λ zs. steps_from v zs ys) (append_assoc acc (x ∷ []) xs)

steps_open : (stage : Stage) (t : ℕ) (e : EventId) (steps ys : List Rec) → Each (IsOwn e) steps → open_of stage (steps ++ ys) t ≡ open_of stage ys t
steps_open stage t e [] ys h = refl
steps_open stage t e (r ∷ rs) ys h = one r h.0 ∙ steps_open stage t e rs ys h.1
  where
    one : (x : Rec) → IsOwn e x → open_of stage (x ∷ (rs ++ ys)) t ≡ open_of stage (rs ++ ys) t
    one (Step event action step now) q = refl
    one (Failure number host key why) q = refl
    one (Problem event now severity suppressed host trigger name tags) q = absurd q
    one (Recovery event by now cause) q = refl
    one (Message event action step recipient subject body) q = refl

opens_home : (stage : Stage) (t : ℕ) (r : Rec) → is_problem r ≡ true → opens stage t r ≡ (home stage (event_of r) == t)
opens_home stage t (Problem event now severity suppressed host trigger name tags) q = refl
opens_home stage t (Failure number host key why) q = cc
opens_home stage t (Recovery event by now cause) q = cc
opens_home stage t (Step event action step now) q = cc
opens_home stage t (Message event action step recipient subject body) q = cc

-- the search over what is told finds it again, whatever tells where events come from
pub written : (stage : Stage) (t : ℕ) (os : List Open) → Each IsOpened os → EachPair Differ os → map unranked (open_of stage (flat_map told os) t) ≡ map unranked (filter (λ o. home stage (event_in o) == t) os)
written stage t [] h d = refl
written stage t (o ∷ os) h d =
    ap₂ (λ a b. map unranked (cond (a && not b) (opened stage o.problem rest ∷ open_of stage rest t) (open_of stage rest t))) (opens_home stage t o.problem h.0.problem) none
    ∙ go (written stage t os h.1 d.1) (home stage (event_in o) == t)
  where
    rest : List Rec
    rest = o.steps ++ flat_map told os

    none : list_any (recovers (event_in o)) rest ≡ false
    none = own_recovers (event_in o) (event_in o) o.steps (flat_map told os) h.0.own ∙ none_recovers (event_in o) os h.1

    steps : steps_of (event_in o) rest ≡ o.steps
    steps = own_steps (event_in o) [] o.steps (flat_map told os) h.0.own h.0.ordered tt ∙ none_steps (event_in o) o.steps os h.1 d.0

    same : unranked (opened stage o.problem rest) ≡ unranked o
    same = λ i. record { problem = o.problem; steps = steps i; rank = 0 }

    Again : Type 0
    Again = map unranked (open_of stage (flat_map told os) t) ≡ map unranked (filter (λ x. home stage (event_in x) == t) os)

    others : Again → map unranked (open_of stage rest t) ≡ map unranked (filter (λ x. home stage (event_in x) == t) os)
    others ih = ap (map unranked) (steps_open stage t (event_in o) o.steps (flat_map told os) h.0.own) ∙ ih

    go : Again → (b : Bool) → map unranked (cond (b && true) (opened stage o.problem rest ∷ open_of stage rest t) (open_of stage rest t)) ≡ map unranked (cond b (o ∷ filter (λ x. home stage (event_in x) == t) os) (filter (λ x. home stage (event_in x) == t) os))
    go ih true = ap₂ (λ x xs. x ∷ xs) same (others ih)
    go ih false = others ih

-- The problems of one trigger among all that are open
module _ (stage : Stage) (all : ℕ → List Open) (homes : (id : ℕ) → AllAtHome stage id (all id)) (t : ℕ) where
  abbrev is_its : Open → Bool
  is_its o = home stage (event_in o) == t

  every : (os : List Open) → Each (λ o. home stage (event_in o) ≡ t) os → filter is_its os ≡ os
  every [] h = refl
  every (o ∷ os) h = ap (λ b. cond b (o ∷ filter is_its os) (filter is_its os)) (eq-eqb (home stage (event_in o)) t h.0) ∙ ap (λ xs. o ∷ xs) (every os h.1)

  others : (u : ℕ) → (u ≡ t → ⊥) → filter is_its (all u) ≡ []
  others u ne = filter_none is_its (all u) (each_sub (λ o. home stage (event_in o) ≡ u) (λ o. is_its o ≡ false) (all u) (λ o q. ne_eqb (home stage (event_in o)) t (λ p. ne (sym q ∙ p))) (homes u))

  not_there : (us : List ℕ) → (In t us → ⊥) → filter is_its (flat_map all us) ≡ []
  not_there [] out = refl
  not_there (u ∷ us) out = filter-append is_its (all u) (flat_map all us) ∙ ap₂ (λ xs ys. xs ++ ys) (others u (λ q. out (inl (sym q)))) (not_there us (λ i. out (inr i)))

  picked : (us : List ℕ) → Once us → In t us ⊎ (all t ≡ []) → filter is_its (flat_map all us) ≡ all t
  picked [] once (inl i) = absurd i
  picked [] once (inr q) = sym q
  picked (u ∷ us) once there = filter-append is_its (all u) (flat_map all us) ∙ go (u == t) refl there (λ k. picked us once.1 k)
    where
      go : (b : Bool) → (u == t) ≡ b → In t (u ∷ us) ⊎ (all t ≡ []) → (In t us ⊎ (all t ≡ []) → filter is_its (flat_map all us) ≡ all t) → filter is_its (all u) ++ filter is_its (flat_map all us) ≡ all t
      go true q k ih =
          let same : u ≡ t = eqb-true u t q in
          ap₂ (λ xs ys. xs ++ ys) (ap (λ v. filter is_its (all v)) same ∙ every (all t) (homes t)) (not_there us (λ i. once.0 (subst (λ v. In v us) (sym same) i))) ∙ append-nil (all t)
      go false q k ih = ap₂ (λ xs ys. xs ++ ys) (others u differs) (ih (rest k))
        where
          differs : u ≡ t → ⊥
          differs same = let r : (u == t) ≡ true = eq-eqb u t same in cc

          rest : In t (u ∷ us) ⊎ (all t ≡ []) → In t us ⊎ (all t ≡ [])
          rest (inl (inl same)) = absurd (differs (sym same))
          rest (inl (inr i)) = inl i
          rest (inr none) = inr none

-- what is open in order, of triggers that are there, is found again among all that are open
pub kept : (stage : Stage) (rs : List Rec) → ((id : ℕ) → AllTagged stage.conf id (open_of stage rs id)) → ((id : ℕ) → AreInOrder stage (open_of stage rs id))
    → (t : ℕ) → filter (λ o. home stage (event_in o) == t) (by_making stage (open_of stage rs)) ≡ open_of stage rs t
unfolding by_making
kept stage rs tagged order_at t =
    by_event_filter stage event_in (λ o. home stage (event_in o) == t) (flat_map (open_of stage rs) (order stage.conf))
    ∙ ap (by_event stage event_in) (picked stage (open_of stage rs) (homes_kept stage rs) t (order stage.conf) (once_order stage.conf) (there (open_of stage rs t) refl (tagged t)))
    ∙ stays_in_order stage event_in (open_of stage rs t) (order_at t)
  where
    there : (os : List Open) → open_of stage rs t ≡ os → AllTagged stage.conf t os → In t (order stage.conf) ⊎ (open_of stage rs t ≡ [])
    there [] q h = inr q
    there (o ∷ os) q h = inl (stands stage.conf t (h.0).0 (h.0).1)

-- So what is open behind records is open behind those that stand for it, where its homes are told right.
pub told_open : (stage other : Stage) (rs : List Rec) → ((id : ℕ) → AllTagged stage.conf id (open_of stage rs id)) → ((id : ℕ) → AreInOrder stage (open_of stage rs id)) → EachPair StandsBehind rs → ((id : ℕ) → AllAtHome other id (open_of stage rs id))
    → (t : ℕ) → map unranked (open_of other (flat_map read_problem (map told_problem (by_making stage (open_of stage rs)))) t) ≡ map unranked (open_of stage rs t)
told_open stage other rs tagged order_at behind homes t =
    let os : List Open = by_making stage (open_of stage rs) in
    let each : Each IsOpened os = making_each IsOpened stage (open_of stage rs) (all_opened stage rs) in
    ap (λ xs. map unranked (open_of other xs t)) (told_again os each) ∙ written other t os each (making_differ stage rs behind)
    ∙ ap (map unranked) (filter_same (λ o. home other (event_in o) == t) (λ o. home stage (event_in o) == t) os
    (making_each (λ o. (home other (event_in o) == t) ≡ (home stage (event_in o) == t)) stage (open_of stage rs) (λ id. both id (open_of stage rs id) (homes id) (homes_kept stage rs id)))
    ∙ kept stage rs tagged order_at t)
  where
    filter_same : (p q : Open → Bool) (xs : List Open) → Each (λ x. p x ≡ q x) xs → filter p xs ≡ filter q xs
    filter_same p q [] e = refl
    filter_same p q (x ∷ xs) e = ap₂ (λ b ys. cond b (x ∷ ys) ys) e.0 (filter_same p q xs e.1)

    both : (id : ℕ) (xs : List Open) → AllAtHome other id xs → AllAtHome stage id xs → Each (λ o. (home other (event_in o) == t) ≡ (home stage (event_in o) == t)) xs
    both id [] a b = tt
    both id (x ∷ xs) a b = (ap (λ k. k == t) (a.0 ∙ sym b.0), both id xs a.1 b.1)
