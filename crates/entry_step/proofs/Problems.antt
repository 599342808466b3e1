-- Open problems and more records.
use Rattle.std.proofs.Common.{◌≡◌, ℕ, ◌==◌, Bool, true, false, cond, not, List, [], ◌∷◌, ◌++◌, Option, map, filter, refl, sym, ◌∙◌, ap, eq-eqb, eqb-true}
use Rattle.zbx_types.specs.declared.triggers.Trigger.{Trigger}
use Rattle.zbx_types.specs.declared.entries.Rec.{Rec}
use Rattle.zbx_types.specs.declared.entries.Rec.TheVariants.{Failure, Problem, Recovery, Step, Message}
use Rattle.zbx_types.specs.Records.{same_event, event_of}
use Rattle.trigger_state.specs.Stages.{Stage, OwnsEvents, home, rank_of}
use Rattle.trigger_state.specs.Problems.{event_in, opens, opened, open_of, with_step, stepped, absorbed, absorbed_all}
use Rattle.trigger_state.proofs.Searches.{search_grows}
use Rattle.entry_step.specs.Records.{problem_of}
use Rattle.zbx_types.specs.declared.entries.Held.{Held}
use Rattle.entry_step.specs.Each.{Each}
use Rattle.entry_step.specs.Represents.{AllAtHome}
use Rattle.entry_step.proofs.Members.{each_append, each_cond, each_from, each_kept}
use Rattle.trigger_state.specs.declared.problems.Open.{Open}

pub one_opened : (stage : Stage) (number now : ℕ) (values : List (Option Held)) (id : ℕ) (trigger : Trigger) (os : List Open) → OwnsEvents stage number
    → os ++ record { problem = problem_of stage.conf number now values id trigger; steps = []; rank = rank_of stage (record { number = number; trigger = id }) } ∷ [] ≡ absorbed_all stage id os (problem_of stage.conf number now values id trigger ∷ [])
unfolding problem_of absorbed
one_opened stage number now values id trigger os own =
    let here : (home stage (record { number = number; trigger = id }) == id) ≡ true = eq-eqb (home stage (record { number = number; trigger = id })) id (own id) in rw here refl

-- a new problem about which no rule and no action does anything
pub one_begun : (stage : Stage) (number now : ℕ) (values : List (Option Held)) (id : ℕ) (trigger : Trigger) (os : List Open) (made : List Rec) → made ≡ problem_of stage.conf number now values id trigger ∷ [] → OwnsEvents stage number
    → os ++ record { problem = problem_of stage.conf number now values id trigger; steps = []; rank = rank_of stage (record { number = number; trigger = id }) } ∷ [] ≡ absorbed_all stage id os made
one_begun stage number now values id trigger os made e is = one_opened stage number now values id trigger os is ∙ ap (absorbed_all stage id os) (sym e)

-- the search with some more records
pub open_append : (stage : Stage) (id : ℕ) (rs more : List Rec) → open_of stage (rs ++ more) id ≡ absorbed_all stage id (open_of stage rs id) more
open_append stage id rs more = search_grows stage rs more id

pub absorbed_append : (stage : Stage) (id : ℕ) (os : List Open) (rs more : List Rec) → absorbed_all stage id os (rs ++ more) ≡ absorbed_all stage id (absorbed_all stage id os rs) more
absorbed_append stage id os [] more = refl
absorbed_append stage id os (r ∷ rs) more = absorbed_append stage id (absorbed stage id os r) rs more

-- What holds of the problems that are open, and of those that some records open, holds of all with these
module _ (Q : Rec → Type 0) where
  each_stepped : (s : Rec) (os : List Open) → Each (λ o. Q o.problem) os → Each (λ o. Q o.problem) (map (stepped s) os)
  each_stepped s [] h = tt
  each_stepped s (o ∷ os) h = (go (same_event (event_in o) (event_of s)), each_stepped s os h.1)
    where
      go : (b : Bool) → Q (cond b (record { problem = o.problem; steps = with_step o.steps s; rank = o.rank }) o).problem
      go true = h.0
      go false = h.0

  each_absorbed : (stage : Stage) (id : ℕ) (os : List Open) (r : Rec) → (opens stage id r ≡ true → Q r) → Each (λ o. Q o.problem) os → Each (λ o. Q o.problem) (absorbed stage id os r)
  unfolding absorbed
  each_absorbed stage id os (Problem event now severity suppressed host trigger name tags) q h = go (home stage event == id) refl
    where
      new : Open
      new = opened stage (Problem event now severity suppressed host trigger name tags) []

      go : (b : Bool) → (home stage event == id) ≡ b → Each (λ o. Q o.problem) (cond b (os ++ new ∷ []) os)
      go true e = each_append (λ o. Q o.problem) os (new ∷ []) h (q e, tt)
      go false e = h
  each_absorbed stage id os (Recovery event by now cause) q h =
      each_cond (λ o. Q o.problem) (home stage event == id) (filter (λ o. not (same_event (event_in o) event)) os) os (each_kept (λ o. Q o.problem) (λ o. not (same_event (event_in o) event)) os h) h
  each_absorbed stage id os (Failure number host key why) q h = h
  each_absorbed stage id os (Step event action step now) q h =
      each_cond (λ o. Q o.problem) (home stage event == id) (map (stepped (Step event action step now)) os) os (each_stepped (Step event action step now) os h) h
  each_absorbed stage id os (Message event action step recipient subject body) q h = h

  pub each_open : (stage : Stage) (id : ℕ) (os : List Open) (rs : List Rec) → Each (λ r. opens stage id r ≡ true → Q r) rs → Each (λ o. Q o.problem) os → Each (λ o. Q o.problem) (absorbed_all stage id os rs)
  each_open stage id os [] q h = h
  each_open stage id os (r ∷ rs) q h = each_open stage id (absorbed stage id os r) rs q.1 (each_absorbed stage id os r q.0 h)

-- Problems stay at home
at_home : (stage : Stage) (id : ℕ) (r : Rec) → opens stage id r ≡ true → home stage (event_of r) ≡ id
at_home stage id (Problem event now severity suppressed host trigger name tags) e = eqb-true (home stage event) id e
at_home stage id (Recovery event by now cause) e = cc
at_home stage id (Failure number host key why) e = cc
at_home stage id (Step event action step now) e = cc
at_home stage id (Message event action step recipient subject body) e = cc

pub home_all : (stage : Stage) (id : ℕ) (os : List Open) (rs : List Rec) → AllAtHome stage id os → AllAtHome stage id (absorbed_all stage id os rs)
home_all stage id os rs h =
    each_open (λ p. home stage (event_of p) ≡ id) stage id os rs (each_from (λ r. opens stage id r ≡ true → home stage (event_of r) ≡ id) rs (λ r i. at_home stage id r)) h

-- nothing is open of a trigger of which no record makes a problem
pub none_open : (stage : Stage) (id : ℕ) (rs : List Rec) → Each (λ r. opens stage id r ≡ false) rs → absorbed_all stage id [] rs ≡ []
unfolding absorbed
none_open stage id [] h = refl
none_open stage id (r ∷ rs) h = ap (λ os. absorbed_all stage id os rs) (one r h.0) ∙ none_open stage id rs h.1
  where
    none : (b : Bool) (os : List Open) → os ≡ [] → cond b os [] ≡ []
    none true os e = e
    none false os e = refl

    one : (r : Rec) → opens stage id r ≡ false → absorbed stage id [] r ≡ []
    one (Problem event now severity suppressed host trigger name tags) e = rw e refl
    one (Recovery event by now cause) e = none (home stage event == id) [] refl
    one (Failure number host key why) e = refl
    one (Step event action step now) e = none (home stage event == id) [] refl
    one (Message event action step recipient subject body) e = refl
