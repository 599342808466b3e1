-- What records make of open problems, whatever the ranks of their events.
use Rattle.std.proofs.Common.{◌≡◌, ◌==◌, ℕ, Bool, true, false, cond, not, List, [], ◌∷◌, ◌++◌, map, filter, refl, sym, ◌∙◌, ap, ap₂, subst, eq-eqb}
use Rattle.std.specs.Prelude.{flat_map}
use Rattle.std.proofs.lemmas.List.{map-append}
use Rattle.zbx_types.specs.Records.{same_event, event_of}
use Rattle.zbx_types.specs.declared.entries.EventId.{EventId}
use Rattle.zbx_types.specs.declared.entries.Rec.{Rec}
use Rattle.zbx_types.specs.declared.entries.Rec.TheVariants.{Failure, Problem, Recovery, Step, Message}
use Rattle.trigger_state.specs.Problems.{event_in, with_step, stepped, opened, absorbed, absorbed_all}
use Rattle.trigger_state.specs.Stages.{Stage, OwnsEvents, home}
use Rattle.trigger_state.specs.declared.problems.Open.{Open}
use Rattle.entry_step.specs.Each.{Each}
use Rattle.entry_step.specs.Making.{is_problem}
use Rattle.entry_step.specs.Represents.{AllAtHome}
use Rattle.entry_step.proofs.Members.{each_sub, filter_map}
use Rattle.entry_step.proofs.Problems.{home_all}
use Rattle.entry_laws.proofs.Runs.{same_is}
use Rattle.base_laws.specs.Alike.{unranked}
use Rattle.base_laws.proofs.Numbers.{OfEntry}

-- Lists
pub filter_all : {A : Type 0} (p : A → Bool) (xs : List A) → Each (λ x. p x ≡ true) xs → filter p xs ≡ xs
filter_all p [] h = refl
filter_all p (x ∷ xs) h = ap (λ b. cond b (x ∷ filter p xs) (filter p xs)) h.0 ∙ ap (λ ys. x ∷ ys) (filter_all p xs h.1)

pub flat_over : {A B C : Type 0} (f : B → List C) (g : A → B) (xs : List A) → flat_map f (map g xs) ≡ flat_map (λ x. f (g x)) xs
flat_over f g [] = refl
flat_over f g (x ∷ xs) = ap (λ ys. f (g x) ++ ys) (flat_over f g xs)

pub map_over : {A B C : Type 0} (f : B → C) (g : A → B) (xs : List A) → map f (map g xs) ≡ map (λ x. f (g x)) xs
map_over f g [] = refl
map_over f g (x ∷ xs) = ap (λ ys. f (g x) ∷ ys) (map_over f g xs)

-- A record other than a Problem
abbrev pub changed : List Open → Rec → List Open
changed os (Recovery event by now cause) = filter (λ o. not (same_event (event_in o) event)) os
changed os (Step event action step now) = map (stepped (Step event action step now)) os
changed os (Problem event now severity suppressed host trigger name tags) = os
changed os (Failure number host key why) = os
changed os (Message event action step recipient subject body) = os

-- what is at home elsewhere is of another event
none_of : (stage : Stage) (id : ℕ) (os : List Open) (event : EventId) → AllAtHome stage id os → (home stage event == id) ≡ false → Each (λ o. same_event (event_in o) event ≡ false) os
none_of stage id os event homes off = each_sub (λ o. home stage (event_in o) ≡ id) (λ o. same_event (event_in o) event ≡ false) os one homes
  where
    one : (o : Open) → home stage (event_in o) ≡ id → same_event (event_in o) event ≡ false
    one o h = go (same_event (event_in o) event) refl
      where
        go : (b : Bool) → same_event (event_in o) event ≡ b → same_event (event_in o) event ≡ false
        go true q =
            let t : (home stage event == id) ≡ true = eq-eqb (home stage event) id (ap (home stage) (sym (same_is (event_in o) event q)) ∙ h) in
            absurd (let f : true ≡ false = sym t ∙ off in cc)
        go false q = q

abbrev as_open : Open → Open
as_open o = o

unstepped : (s : Rec) (os : List Open) → Each (λ o. same_event (event_in o) (event_of s) ≡ false) os → map (stepped s) os ≡ os
unstepped s [] h = refl
unstepped s (o ∷ os) h = ap₂ (λ x xs. x ∷ xs) (ap (λ b. cond b (as_open (record { problem = o.problem; steps = with_step o.steps s; rank = o.rank })) o) h.0) (unstepped s os h.1)

pub absorbed_is : (stage : Stage) (id : ℕ) (os : List Open) (r : Rec) → AllAtHome stage id os → is_problem r ≡ false → absorbed stage id os r ≡ changed os r
unfolding absorbed
absorbed_is stage id os (Problem event now severity suppressed host trigger name tags) homes q = absurd (cc)
absorbed_is stage id os (Failure number host key why) homes q = refl
absorbed_is stage id os (Message event action step recipient subject body) homes q = refl
absorbed_is stage id os (Recovery event by now cause) homes q = go (home stage event == id) refl
  where
    go : (b : Bool) → (home stage event == id) ≡ b → cond b (filter (λ o. not (same_event (event_in o) event)) os) os ≡ filter (λ o. not (same_event (event_in o) event)) os
    go true e = refl
    go false e =
        sym (filter_all (λ o. not (same_event (event_in o) event)) os
        (each_sub (λ o. same_event (event_in o) event ≡ false) (λ o. not (same_event (event_in o) event) ≡ true) os (λ o h. ap not h) (none_of stage id os event homes e)))
absorbed_is stage id os (Step event action step now) homes q = go (home stage event == id) refl
  where
    go : (b : Bool) → (home stage event == id) ≡ b → cond b (map (stepped (Step event action step now)) os) os ≡ map (stepped (Step event action step now)) os
    go true e = refl
    go false e = sym (unstepped (Step event action step now) os (none_of stage id os event homes e))

unranked_stepped : (s : Rec) (os : List Open) → map unranked (map (stepped s) os) ≡ map (stepped s) (map unranked os)
unranked_stepped s [] = refl
unranked_stepped s (o ∷ os) = ap₂ (λ x xs. x ∷ xs) (go (same_event (event_in o) (event_of s))) (unranked_stepped s os)
  where
    go : (b : Bool) → unranked (cond b (record { problem = o.problem; steps = with_step o.steps s; rank = o.rank }) o) ≡ cond b (record { problem = o.problem; steps = with_step o.steps s; rank = 0 }) (unranked o)
    go true = refl
    go false = refl

unranked_changed : (os : List Open) (r : Rec) → map unranked (changed os r) ≡ changed (map unranked os) r
unranked_changed os (Problem event now severity suppressed host trigger name tags) = refl
unranked_changed os (Failure number host key why) = refl
unranked_changed os (Message event action step recipient subject body) = refl
unranked_changed os (Recovery event by now cause) = sym (filter_map (λ o. not (same_event (event_in o) event)) unranked os)
unranked_changed os (Step event action step now) = unranked_stepped (Step event action step now) os

-- Records of an entry whose events are its own, over problems that are the same but for ranks
pub own_is : (stage : Stage) (n : ℕ) → OwnsEvents stage n → (event : EventId) → event.number ≡ n → home stage event ≡ event.trigger
own_is stage n own event q = subst (λ (m : ℕ). home stage (record { number = m; trigger = event.trigger }) ≡ event.trigger) (sym q) (own event.trigger)

module _ (stage other : Stage) (n : ℕ) (own : OwnsEvents stage n) (own_too : OwnsEvents other n) (id : ℕ) where
  one_same : (xs ys : List Open) (r : Rec) → OfEntry n r → AllAtHome stage id xs → AllAtHome other id ys → map unranked xs ≡ map unranked ys
      → map unranked (absorbed stage id xs r) ≡ map unranked (absorbed other id ys r)
  unfolding absorbed
  one_same xs ys (Problem event now severity suppressed host trigger name tags) of a b same =
      ap (λ h. map unranked (cond (h == id) (xs ++ opened stage r [] ∷ []) xs)) (own_is stage n own event of) ∙ go (event.trigger == id)
      ∙ sym (ap (λ h. map unranked (cond (h == id) (ys ++ opened other r [] ∷ []) ys)) (own_is other n own_too event of))
    where
      r : Rec
      r = Problem event now severity suppressed host trigger name tags

      go : (c : Bool) → map unranked (cond c (xs ++ opened stage r [] ∷ []) xs) ≡ map unranked (cond c (ys ++ opened other r [] ∷ []) ys)
      go true = map-append unranked xs (opened stage r [] ∷ []) ∙ ap (λ zs. zs ++ unranked (opened stage r []) ∷ []) same ∙ sym (map-append unranked ys (opened other r [] ∷ []))
      go false = same
  one_same xs ys (Failure number host key why) of a b same = same
  one_same xs ys (Message event action step recipient subject body) of a b same = same
  one_same xs ys (Recovery event by now cause) of a b same =
      let r : Rec = Recovery event by now cause in
      ap (map unranked) (absorbed_is stage id xs r a refl) ∙ unranked_changed xs r ∙ ap (λ zs. changed zs r) same ∙ sym (unranked_changed ys r)
      ∙ sym (ap (map unranked) (absorbed_is other id ys r b refl))
  one_same xs ys (Step event action step now) of a b same =
      let r : Rec = Step event action step now in
      ap (map unranked) (absorbed_is stage id xs r a refl) ∙ unranked_changed xs r ∙ ap (λ zs. changed zs r) same ∙ sym (unranked_changed ys r)
      ∙ sym (ap (map unranked) (absorbed_is other id ys r b refl))

  pub all_same : (xs ys : List Open) (rs : List Rec) → Each (OfEntry n) rs → AllAtHome stage id xs → AllAtHome other id ys → map unranked xs ≡ map unranked ys
      → map unranked (absorbed_all stage id xs rs) ≡ map unranked (absorbed_all other id ys rs)
  all_same xs ys [] of a b same = same
  all_same xs ys (r ∷ rs) of a b same =
      all_same (absorbed stage id xs r) (absorbed other id ys r) rs of.1 (home_all stage id xs (r ∷ []) a) (home_all other id ys (r ∷ []) b) (one_same xs ys r of.0 a b same)
