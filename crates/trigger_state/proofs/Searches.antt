-- The search for open problems, record by record.
use Rattle.std.proofs.Common.{◌≡◌, ℕ, ◌==◌, Bool, true, false, cond, not, ◌&&◌, ◌||◌, List, [], ◌∷◌, ◌++◌, map, filter, refl, sym, ◌∙◌, ap, append-nil, append_assoc, eq-eqb, eqb-true}
use Rattle.std.specs.Prelude.{All}
use Rattle.std.proofs.lemmas.List.Folds.{list_any-append}
use Rattle.std.proofs.lemmas.List.Elements.{All-head, All-tail}
use Rattle.std.specs.List.{list_any}
use Rattle.zbx_types.specs.Records.{same_event, event_of}
use Rattle.zbx_types.specs.declared.entries.EventId.{EventId}
use Rattle.zbx_types.specs.declared.entries.Rec.{Rec}
use Rattle.zbx_types.specs.declared.entries.Rec.TheVariants.{Failure, Problem, Recovery, Step, Message}
use Rattle.trigger_state.specs.Problems.{opens, recovers, is_step_of, steps_from, steps_of, opened, event_in, open_of, with_step, stepped, absorbed, absorbed_all}
use Rattle.trigger_state.specs.Laws.{SearchGrows, LandsAlone, OpenFirst, OpenByTest}
use Rattle.trigger_state.specs.Stages.{Stage, home}
use Rattle.trigger_state.specs.declared.problems.Open.{Open}

same_is : (a b : EventId) → same_event a b ≡ true → a ≡ b
same_is a b h = go (a.number == b.number) (a.trigger == b.trigger) refl refl h
  where
    both : a.number ≡ b.number → a.trigger ≡ b.trigger → a ≡ b
    both n t = ap (λ (x : ℕ). (let e : EventId = record { number = x; trigger = a.trigger } in e)) n ∙ ap (λ (x : ℕ). (let e : EventId = record { number = b.number; trigger = x } in e)) t

    go : (x y : Bool) → (a.number == b.number) ≡ x → (a.trigger == b.trigger) ≡ y → (x && y) ≡ true → a ≡ b
    go true true n t h = both (eqb-true a.number b.number n) (eqb-true a.trigger b.trigger t)
    go true false n t h = cc
    go false y n t h = cc

-- Steps with one more
steps_more : (e : EventId) (steps : List Rec) (r : Rec) (rs : List Rec) → steps_from e steps (rs ++ r ∷ []) ≡ cond (is_step_of e r) (with_step (steps_from e steps rs) r) (steps_from e steps rs)
steps_more e steps r [] = refl
steps_more e steps r (x ∷ rs) = steps_more e (cond (is_step_of e x) (with_step steps x) steps) r rs

steps_push : (e : EventId) (r : Rec) (rs : List Rec) → steps_of e (rs ++ r ∷ []) ≡ cond (is_step_of e r) (with_step (steps_of e rs) r) (steps_of e rs)
steps_push e r rs = steps_more e [] r rs

-- One more record
later_same : (stage : Stage) (p r : Rec) (rs : List Rec) → is_step_of (event_of p) r ≡ false → opened stage p (rs ++ r ∷ []) ≡ opened stage p rs
later_same stage p r rs h = ap (λ (ss : List Rec). (let o : Open = record { problem = p; steps = ss; rank = (opened stage p rs).rank } in o)) (steps_push (event_of p) r rs ∙ ap (λ b. cond b (with_step (steps_of (event_of p) rs) r) (steps_of (event_of p) rs)) h)

later_step : (stage : Stage) (p : Rec) (event : EventId) (action : List ℕ) (step now : ℕ) (rs : List Rec) → opened stage p (rs ++ Step event action step now ∷ []) ≡ stepped (Step event action step now) (opened stage p rs)
later_step stage p event action step now rs =
    ap (λ (ss : List Rec). (let o : Open = record { problem = p; steps = ss; rank = (opened stage p rs).rank } in o)) (steps_push (event_of p) s rs) ∙ go (same_event (event_of p) event)
  where
    s : Rec
    s = Step event action step now

    go : (b : Bool) → (let o : Open = record { problem = p; steps = cond b (with_step (steps_of (event_of p) rs) s) (steps_of (event_of p) rs); rank = (opened stage p rs).rank } in o)
        ≡ cond b (let o : Open = record { problem = p; steps = with_step (steps_of (event_of p) rs) s; rank = (opened stage p rs).rank } in o) (opened stage p rs)
    go true = refl
    go false = refl

open_one : (stage : Stage) (id : ℕ) (r : Rec) → open_of stage (r ∷ []) id ≡ absorbed stage id [] r
unfolding absorbed
open_one stage id (Problem event now severity suppressed host trigger name tags) = go (home stage event == id)
  where
    o : Open
    o = opened stage (Problem event now severity suppressed host trigger name tags) []

    go : (b : Bool) → cond (b && true) (o ∷ []) [] ≡ cond b (o ∷ []) []
    go true = refl
    go false = refl
open_one stage id (Recovery event by now cause) = go (home stage event == id)
  where
    go : (b : Bool) → ◌≡◌ {A = List Open} [] (cond b [] [])
    go true = refl
    go false = refl
open_one stage id (Step event action step now) = go (home stage event == id)
  where
    go : (b : Bool) → ◌≡◌ {A = List Open} [] (cond b [] [])
    go true = refl
    go false = refl
open_one stage id (Failure number host key why) = refl
open_one stage id (Message event action step recipient subject body) = refl

home_of_open : (stage : Stage) (id : ℕ) (p : Rec) → opens stage id p ≡ true → home stage (event_of p) ≡ id
home_of_open stage id (Problem event now severity suppressed host trigger name tags) e = eqb-true (home stage event) id e
home_of_open stage id (Failure number host key why) e = cc
home_of_open stage id (Recovery event by now cause) e = cc
home_of_open stage id (Step event action step now) e = cc
home_of_open stage id (Message event action step recipient subject body) e = cc

-- an event of another trigger
not_here : (stage : Stage) (id : ℕ) (p : Rec) (event : EventId) → opens stage id p ≡ true → (home stage event == id) ≡ false → same_event (event_of p) event ≡ false
not_here stage id p event o n = go (same_event (event_of p) event) refl
  where
    go : (s : Bool) → same_event (event_of p) event ≡ s → same_event (event_of p) event ≡ false
    go true es =
        let h : (home stage event == id) ≡ true = eq-eqb (home stage event) id (ap (home stage) (sym (same_is (event_of p) event es)) ∙ home_of_open stage id p o) in cc
    go false es = es

-- a problem in front, and one record more at the end. a: it is of the trigger; g: it is closed already
front : Bool → Bool → Open → List Open → List Open
front a g p os = cond (a && not g) (p ∷ os) os

front_quiet : (a g : Bool) (p : Open) (os : List Open) → front a (g || (false || false)) p os ≡ front a g p os
unfolding front
front_quiet a true p os = refl
front_quiet a false p os = refl

front_push : (stage : Stage) (id : ℕ) (p r : Rec) (rs : List Rec) (g : Bool) (os : List Open) → (a : Bool) → opens stage id p ≡ a
    → front a (g || (recovers (event_of p) r || false)) (opened stage p (rs ++ r ∷ [])) (absorbed stage id os r) ≡ absorbed stage id (front a g (opened stage p rs) os) r
unfolding front absorbed
front_push stage id p (Problem event now severity suppressed host trigger name tags) rs g os a e =
    ap (λ o. cond (a && not (g || (false || false))) (o ∷ cond (home stage event == id) (os ++ q ∷ []) os) (cond (home stage event == id) (os ++ q ∷ []) os)) (later_same stage p r rs refl) ∙ go a g (home stage event == id)
  where
    r : Rec
    r = Problem event now severity suppressed host trigger name tags

    q : Open
    q = opened stage r []

    go : (a g b : Bool) → cond (a && not (g || (false || false))) (opened stage p rs ∷ cond b (os ++ q ∷ []) os) (cond b (os ++ q ∷ []) os)
        ≡ cond b (cond (a && not g) (opened stage p rs ∷ os) os ++ q ∷ []) (cond (a && not g) (opened stage p rs ∷ os) os)
    go true true true = refl
    go true true false = refl
    go true false true = refl
    go true false false = refl
    go false g true = refl
    go false g false = refl
front_push stage id p (Recovery event by now cause) rs g os a e =
    ap (λ o. cond (a && not (g || (same_event (event_of p) event || false))) (o ∷ cond (home stage event == id) (filter f os) os) (cond (home stage event == id) (filter f os) os)) (later_same stage p (Recovery event by now cause) rs refl)
    ∙ go a g (home stage event == id) (same_event (event_of p) event) e refl refl
  where
    f : Open → Bool
    f o = not (same_event (event_in o) event)

    go : (a g b s : Bool) → opens stage id p ≡ a → (home stage event == id) ≡ b → same_event (event_of p) event ≡ s
        → cond (a && not (g || (s || false))) (opened stage p rs ∷ cond b (filter f os) os) (cond b (filter f os) os) ≡ cond b (filter f (cond (a && not g) (opened stage p rs ∷ os) os)) (cond (a && not g) (opened stage p rs ∷ os) os)
    go false g true s o eb es = refl
    go false g false s o eb es = refl
    go true true true s o eb es = refl
    go true true false s o eb es = refl
    go true false true true o eb es = rw es refl
    go true false true false o eb es = rw es refl
    go true false false true o eb es = let n = not_here stage id p event o eb in cc
    go true false false false o eb es = refl
front_push stage id p (Step event action step now) rs g os a e = go a g (home stage event == id) e refl
  where
    r : Rec
    r = Step event action step now

    go : (a g b : Bool) → opens stage id p ≡ a → (home stage event == id) ≡ b
        → cond (a && not (g || (false || false))) (opened stage p (rs ++ r ∷ []) ∷ cond b (map (stepped r) os) os) (cond b (map (stepped r) os) os) ≡ cond b (map (stepped r) (cond (a && not g) (opened stage p rs ∷ os) os)) (cond (a && not g) (opened stage p rs ∷ os) os)
    go false g true o eb = refl
    go false g false o eb = refl
    go true true true o eb = refl
    go true true false o eb = refl
    go true false true o eb = ap (λ x. x ∷ map (stepped r) os) (later_step stage p event action step now rs)
    go true false false o eb = ap (λ x. x ∷ os) (later_same stage p r rs (not_here stage id p event o eb))
front_push stage id p (Failure number host key why) rs g os a e =
    ap (λ o. front a (g || (false || false)) o os) (later_same stage p (Failure number host key why) rs refl) ∙ front_quiet a g (opened stage p rs) os
front_push stage id p (Message event action step recipient subject body) rs g os a e =
    ap (λ o. front a (g || (false || false)) o os) (later_same stage p (Message event action step recipient subject body) rs refl) ∙ front_quiet a g (opened stage p rs) os

pub open_push : (stage : Stage) (id : ℕ) (rs : List Rec) (r : Rec) → open_of stage (rs ++ r ∷ []) id ≡ absorbed stage id (open_of stage rs id) r
unfolding front
open_push stage id [] r = open_one stage id r
open_push stage id (p ∷ rs) r =
    ap (λ b. front (opens stage id p) b (opened stage p (rs ++ r ∷ [])) (open_of stage (rs ++ r ∷ []) id)) (list_any-append (recovers (event_of p)) rs (r ∷ []))
    ∙ ap (front (opens stage id p) (list_any (recovers (event_of p)) rs || (recovers (event_of p) r || false)) (opened stage p (rs ++ r ∷ []))) (open_push stage id rs r)
    ∙ front_push stage id p r rs (list_any (recovers (event_of p)) rs) (open_of stage rs id) (opens stage id p) refl

open_append : (stage : Stage) (id : ℕ) (rs more : List Rec) → open_of stage (rs ++ more) id ≡ absorbed_all stage id (open_of stage rs id) more
open_append stage id rs [] = ap (λ xs. open_of stage xs id) (append-nil rs)
open_append stage id rs (r ∷ more) =
    ap (λ xs. open_of stage xs id) (sym (append_assoc rs (r ∷ []) more)) ∙ open_append stage id (rs ++ r ∷ []) more
    ∙ ap (λ os. absorbed_all stage id os more) (open_push stage id rs r)

pub search_grows : SearchGrows
search_grows stage rs more id = open_append stage id rs more

pub lands_alone : LandsAlone
unfolding absorbed
lands_alone stage id os (Problem event now severity suppressed host trigger name tags) e = rw e refl
lands_alone stage id os (Recovery event by now cause) e = rw e refl
lands_alone stage id os (Step event action step now) e = rw e refl
lands_alone stage id os (Failure number host key why) e = refl
lands_alone stage id os (Message event action step recipient subject body) e = refl

-- No Recovery before its Problem
not_itself : (stage : Stage) (id : ℕ) (r : Rec) (e : EventId) → opens stage id r ≡ true → recovers e r ≡ false
not_itself stage id (Problem event now severity suppressed host trigger name tags) e h = refl
not_itself stage id (Failure number host key why) e h = cc
not_itself stage id (Recovery event by now cause) e h = cc
not_itself stage id (Step event action step now) e h = cc
not_itself stage id (Message event action step recipient subject body) e h = cc

found_all : (stage : Stage) (id : ℕ) (is_problem : Rec → Bool) (earlier rs : List Rec) → All (λ r. is_problem r ≡ opens stage id r) rs → OpenFirst is_problem earlier rs
    → map (λ o. o.problem) (open_of stage rs id) ≡ filter (λ r. is_problem r && not (list_any (recovers (event_of r)) (earlier ++ rs))) rs
found_all stage id is_problem earlier [] tells first = refl
found_all stage id is_problem earlier (r ∷ rs) tells first =
    let same = All-head (λ x. is_problem x ≡ opens stage id x) r rs tells in
    let rest = found_all stage id is_problem (earlier ++ r ∷ []) rs (All-tail (λ x. is_problem x ≡ opens stage id x) r rs tells) first.1
    ∙ ap (λ all. filter (λ x. is_problem x && not (list_any (recovers (event_of x)) all)) rs) (append_assoc earlier (r ∷ []) rs) in
    go (opens stage id r) (is_problem r) refl refl same rest
  where
    kept : List Rec
    kept = filter (λ x. is_problem x && not (list_any (recovers (event_of x)) (earlier ++ r ∷ rs))) rs

    parts : opens stage id r ≡ true → is_problem r ≡ true → list_any (recovers (event_of r)) (earlier ++ r ∷ rs) ≡ list_any (recovers (event_of r)) rs
    parts o p = list_any-append (recovers (event_of r)) earlier (r ∷ rs) ∙ ap (λ b. b || (recovers (event_of r) r || list_any (recovers (event_of r)) rs)) (first.0 p) ∙ ap (λ b. b || list_any (recovers (event_of r)) rs) (not_itself stage id r (event_of r) o)

    go : (a b : Bool) → opens stage id r ≡ a → is_problem r ≡ b → is_problem r ≡ opens stage id r → map (λ o. o.problem) (open_of stage rs id) ≡ kept
        → map (λ (o : Open). o.problem) (cond (a && not (list_any (recovers (event_of r)) rs)) (opened stage r rs ∷ open_of stage rs id) (open_of stage rs id))
        ≡ cond (b && not (list_any (recovers (event_of r)) (earlier ++ r ∷ rs))) (r ∷ kept) kept
    go true true o p s ih = side (list_any (recovers (event_of r)) rs) ∙ ap (λ b. cond (not b) (r ∷ kept) kept) (sym (parts o p))
      where
        side : (c : Bool) → map (λ (x : Open). x.problem) (cond (not c) (opened stage r rs ∷ open_of stage rs id) (open_of stage rs id)) ≡ cond (not c) (r ∷ kept) kept
        side true = ih
        side false = ap (λ xs. r ∷ xs) ih
    go true false o p s ih = cc
    go false true o p s ih = cc
    go false false o p s ih = ih

pub open_by_test : OpenByTest
open_by_test stage id is_problem rs tells first = found_all stage id is_problem [] rs tells first
