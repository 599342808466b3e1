-- Which triggers' problems records change, and what a trigger adds.
use Rattle.std.proofs.Common.{◌≡◌, length, ℕ, ◌==◌, Bool, true, false, cond, Option, Some, None, List, [], ◌∷◌, ◌++◌, filter, refl, sym, ◌∙◌, ap, subst, eqb-true, ℤ, pos, Result, Ok, Err, IfOk}
use mathlib.Core.Path.{fun_ext}
use Rattle.std.specs.Ordering.{int_eq}
use Rattle.zbx_types.specs.Ids.{at_id}
use Rattle.zbx_types.specs.Masters.{masters_of}
use Rattle.zbx_types.specs.declared.triggers.Trigger.{Trigger}
use Rattle.zbx_types.specs.declared.entries.Cause2.{Cause2}
use Rattle.zbx_types.specs.declared.entries.Cause2.TheVariants as causes
use Rattle.event_correlation.specs.declared.answer.Closes.{Closes}
use Rattle.zbx_types.specs.declared.entries.EventId.{EventId}
use Rattle.zbx_types.specs.declared.entries.Rec.{Rec}
use Rattle.zbx_types.specs.declared.entries.Stored.{Stored}
use Rattle.trigger_state.specs.Stages.{Stage, OwnsEvents, home}
use Rattle.trigger_state.specs.Problems.{event_in, lands, absorbed_all}
use Rattle.entry_step.specs.Seen.{shown_values, Seen, seen_in}
use Rattle.entry_step.specs.Evaluation.{call_value}
use Rattle.event_text.specs.Titles.{event_tags}
use Rattle.zbx_types.specs.declared.entries.Held.{Held}
use Rattle.entry_step.specs.Records.{problem_of, closed_records, ruled, ruled_records, last_records, begun_with, verdict_records, records_by, evaluated}
use Rattle.conf_index.specs.Evaluation.{expression_value, recovery_value}
use Rattle.entry_step.specs.Changes.{outcome_records, outcome_rows, EachClosed, judged, AreTidy, Absorbed}
use Rattle.entry_step.specs.declared.changes.TriggerOutcome.{TriggerOutcome}
use Rattle.trigger_state.specs.Verdicts.{some_open, is_held, lets_close, makes_new, is_closed_by, closing, close_all, verdict_over, verdict_by}
use Rattle.trigger_state.specs.declared.answer.Verdict.{Verdict}
use Rattle.trigger_state.specs.declared.answer.Verdict.TheVariants.{Nothing, New, Close}
use Rattle.zbx_types.specs.declared.entries.Tag.{Tag}
use Rattle.zbx_types.specs.Records.{same_event, event_of}
use Rattle.zbx_types.specs.declared.entries.Rec.TheVariants.{Failure, Problem, Recovery, Step, Message}
use Rattle.escalations.specs.Escalations.{first_records_of, recovered_records}
use Rattle.std.specs.Prelude.{flat_map}
use Rattle.entry_step.specs.Due.{IsAbout}
use Rattle.entry_step.proofs.Said.{due_about, closed_about}
use Rattle.entry_step.specs.Each.{Each}
use Rattle.entry_step.proofs.Members.{each_map, each_cond}
use Rattle.entry_step.specs.Represents.{problems_at, AllAtHome}
use Rattle.trigger_state.specs.declared.problems.Open.{Open}
use Rattle.trigger_state.proofs.Searches.{lands_alone}
use Rattle.entry_step.specs.declared.occasions.Occasion.{Occasion}

-- the records change the problems of triggers in K alone
abbrev pub LandIn : Stage → (ℕ → Bool) → List Rec → Type 0
LandIn stage K [] = Unit {0}
LandIn stage K (r ∷ rs) = ((id : ℕ) → K id ≡ false → lands stage r id ≡ false) × LandIn stage K rs

pub land_append : (stage : Stage) (K : ℕ → Bool) (rs more : List Rec) → LandIn stage K rs → LandIn stage K more → LandIn stage K (rs ++ more)
land_append stage K [] more a b = b
land_append stage K (r ∷ rs) more a b = (a.0, land_append stage K rs more a.1 b)

pub land_off : (stage : Stage) (K : ℕ → Bool) (id : ℕ) (os : List Open) (rs : List Rec) → LandIn stage K rs → K id ≡ false → absorbed_all stage id os rs ≡ os
land_off stage K id os [] l e = refl
land_off stage K id os (r ∷ rs) l e = ap (λ xs. absorbed_all stage id xs rs) (lands_alone stage id os r (l.0 id e)) ∙ land_off stage K id os rs l.1 e

pub land_sub : (stage : Stage) (K L : ℕ → Bool) (rs : List Rec) → ((id : ℕ) → L id ≡ false → K id ≡ false) → LandIn stage K rs → LandIn stage L rs
land_sub stage K L [] h l = tt
land_sub stage K L (r ∷ rs) h l = (λ id e. l.0 id (h id e), land_sub stage K L rs h l.1)

-- the test of one id
abbrev pub only : ℕ → ℕ → Bool
only id j = id == j

pub in_only : (K : ℕ → Bool) (id j : ℕ) → K id ≡ true → K j ≡ false → only id j ≡ false
in_only K id j t f = go (id == j) refl
  where
    go : (b : Bool) → (id == j) ≡ b → b ≡ false
    go true e = let s : K j ≡ true = subst (λ x. K x ≡ true) (eqb-true id j e) t in cc
    go false e = refl

pub about_lands : (stage : Stage) (e : EventId) (K : ℕ → Bool) (rs : List Rec) → K (home stage e) ≡ true → Each (IsAbout e) rs → LandIn stage K rs
about_lands stage e K [] h a = tt
about_lands stage e K (r ∷ rs) h a = (one r a.0, about_lands stage e K rs h a.1)
  where
    one : (r : Rec) → IsAbout e r → (j : ℕ) → K j ≡ false → lands stage r j ≡ false
    one (Step event action step now) is j q = in_only K (home stage event) j (ap (λ x. K (home stage x)) is ∙ h) q
    one (Message event action step recipient subject body) is j q = refl
    one (Failure number host key why) is j q = absurd is
    one (Problem event now severity suppressed host trigger name tags) is j q = absurd is
    one (Recovery event by now cause) is j q = absurd is

pub closed_lands : (stage : Stage) (number now : ℕ) (cause : Cause2) (K : ℕ → Bool) (os : EventId → List Open) (events : List EventId) → Each (λ e. K (home stage e) ≡ true) events
    → LandIn stage K (flat_map (λ e. closed_records stage.conf number now cause (os e) e) events)
closed_lands stage number now cause K os [] h = tt
closed_lands stage number now cause K os (e ∷ es) h =
    land_append stage K (closed_records stage.conf number now cause (os e) e) (flat_map (λ x. closed_records stage.conf number now cause (os x) x) es)
    (λ j q. in_only K (home stage e) j h.0 q, about_lands stage e K (flat_map (λ o. recovered_records stage.conf o.problem o.steps now) (filter (λ o. same_event (event_in o) e) (os e))) h.0 (closed_about e e stage.conf now (os e)))
    (closed_lands stage number now cause K os es h.1)

-- a new problem lands in the cell of its trigger, and what closes for it in the cells of theirs
last_lands : (stage : Stage) (number now id : ℕ) (K : ℕ → Bool) (problem : Rec) (is_closed : Bool) → K (home stage (event_of problem)) ≡ true → LandIn stage K (last_records stage.conf number now id problem is_closed)
last_lands stage number now id K problem true h = (λ j q. in_only K (home stage (event_of problem)) j h q, tt)
last_lands stage number now id K problem false h = about_lands stage (event_of problem) K (first_records_of stage.conf id problem now) h (due_about stage.conf id problem [] now)

pub begun_lands : (stage : Stage) (number now : ℕ) (values : List (Option Held)) (all : ℕ → List Open) (id : ℕ) (trigger : Trigger) (K : ℕ → Bool) (closes : Closes) → OwnsEvents stage number → K id ≡ true → Each (λ e. K (home stage e) ≡ true) closes.old
    → LandIn stage K (begun_with stage number now all id (problem_of stage.conf number now values id trigger) closes)
unfolding problem_of
begun_lands stage number now values all id trigger K closes homes own old =
    let problem : Rec = problem_of stage.conf number now values id trigger in
    let event : EventId = record { number = number; trigger = id } in
    let self : K (home stage event) ≡ true = ap K (homes id) ∙ own in (
      λ j q. in_only K (home stage event) j self q,
      land_append stage K (ruled_records stage number now all closes.old) (last_records stage.conf number now id problem closes.new)
          (closed_lands stage number now causes.Correlation K (λ e. all (home stage e)) closes.old old) (last_lands stage number now id K problem closes.new self),
    )

pub verdict_lands : (stage : Stage) (number now : ℕ) (values : List (Option Held)) (all : ℕ → List Open) (id : ℕ) (trigger : Trigger) (K : ℕ → Bool) → OwnsEvents stage number → K id ≡ true
    → Each (λ e. K (home stage e) ≡ true) (ruled stage (problem_of stage.conf number now values id trigger) all).old → (v : Verdict) → EachClosed (λ e. K (home stage e) ≡ true) v → LandIn stage K (verdict_records stage number now values id trigger all v)
unfolding verdict_records
verdict_lands stage number now values all id trigger K homes self old Nothing h = tt
verdict_lands stage number now values all id trigger K homes self old New h = begun_lands stage number now values all id trigger K (ruled stage (problem_of stage.conf number now values id trigger) all) homes self old
verdict_lands stage number now values all id trigger K homes self old (Close events) h = closed_lands stage number now causes.Expression K (λ e. all id) events h

-- what a verdict closes is among the open problems
module _ (P : EventId → Type 0) where
  closing_own : (trigger : Trigger) (tags : List Tag) (os : List Open) → Each (λ o. P (event_in o)) os → Each P (closing trigger tags os)
  closing_own trigger tags os h = each_map P event_in (filter (is_closed_by trigger.close_tag tags) os) (kept os h)
    where
      kept : (xs : List Open) → Each (λ o. P (event_in o)) xs → Each (λ o. P (event_in o)) (filter (is_closed_by trigger.close_tag tags) xs)
      kept [] e = tt
      kept (x ∷ xs) e = each_cond (λ o. P (event_in o)) (is_closed_by trigger.close_tag tags x) (x ∷ filter (is_closed_by trigger.close_tag tags) xs) (filter (is_closed_by trigger.close_tag tags) xs) (e.0, kept xs e.1) (kept xs e.1)

  all_own : (events : List EventId) → Each P events → EachClosed P (close_all events)
  all_own [] h = tt
  all_own (e ∷ es) h = h

  pub closes_own : (trigger : Trigger) (held : Bool) (os : List Open) (p r : Option ℤ) (tags : List Tag) (is_value : Bool) → Each (λ o. P (event_in o)) os → EachClosed P (verdict_over trigger held os p r tags is_value)
  closes_own trigger true os p r tags is_value h = tt
  closes_own trigger false os None r tags is_value h = tt
  closes_own trigger false os (Some z) r tags is_value h = go (int_eq z (pos 0)) (lets_close trigger.recovery r) (makes_new trigger os is_value)
    where
      go : (a b d : Bool) → EachClosed P (cond a (cond b (close_all (closing trigger tags os)) Nothing) (cond d New Nothing))
      go true true d = all_own (closing trigger tags os) (closing_own trigger tags os h)
      go true false d = tt
      go false b true = tt
      go false b false = tt

-- what the outcome of a verdict makes of the rows
pub settled_rows : {E : Type 0} (result : Result (Option TriggerOutcome) E) (stage : Stage) (number : ℕ) (rows : List (List Open)) (id : ℕ) (trigger : Trigger) (held : Bool) (os : List Open) (p r : Option ℤ) (tags : List Tag) (is_value : Bool) (v : Verdict)
    → v ≡ verdict_over trigger held os p r tags is_value → os ≡ problems_at rows id
    → IfOk result (λ made. OwnsEvents stage number → EachClosed (λ e. home stage e ≡ id) v → length rows ≡ length stage.conf.triggers → Absorbed stage rows (outcome_records made) (outcome_rows rows id made))
    → IfOk result (λ made. AreTidy stage number rows → Absorbed stage rows (outcome_records made) (outcome_rows rows id made))
settled_rows (Ok made) stage number rows id trigger held os p r tags is_value v is own h = λ tidy.
    h tidy.own (subst (EachClosed (λ e. home stage e ≡ id)) (sym is) (closes_own (λ e. home stage e ≡ id) trigger held os p r tags is_value (subst (AllAtHome stage id) (sym own) (tidy.homes id)))) tidy.size
settled_rows (Err e) stage number rows id trigger held os p r tags is_value v is own h = tt

-- what a trigger adds that is there
pub judged_is : (stage : Stage) (occasion : Occasion) (items : ℕ → List Stored) (all : ℕ → List Open) (id : ℕ) (trigger : Trigger) → at_id stage.conf.triggers id ≡ Some trigger
    → evaluated stage occasion items all id ≡ judged stage occasion (seen_in items occasion stage.conf.utc_offset trigger) id trigger (is_held stage.conf all id) all
unfolding evaluated
judged_is stage occasion items all id trigger e =
    let seen : Seen = seen_in items occasion stage.conf.utc_offset trigger in
    ap (records_by stage occasion items all id) e
    ∙ ap (λ t. verdict_records stage occasion.number occasion.now seen.values id trigger all (verdict_by t (is_held stage.conf all id) (all id) (expression_value seen.calls trigger.expr) (recovery_value seen.calls trigger.recovery_expr) (event_tags stage.conf id seen.values) occasion.is_value)) e

pub outcome_is : (stage other : Stage) (occasion : Occasion) (calls : ℕ → Option ℤ) (items : ℕ → List Stored) (all : ℕ → List Open) (id : ℕ) (trigger : Trigger) (held : Bool) (ms : List ℕ) → other ≡ stage
    → ((place : ℕ) → calls place ≡ call_value items occasion stage.conf.utc_offset trigger place) → at_id stage.conf.triggers id ≡ Some trigger → ms ≡ masters_of stage.conf id → held ≡ some_open all ms
    → judged other occasion (record { calls = calls; values = shown_values items occasion.now trigger }) id trigger held all ≡ evaluated stage occasion items all id
outcome_is stage other occasion calls items all id trigger held ms same values there m h =
    let sight : (ℕ → Option ℤ) → Seen = λ v. record { calls = v; values = shown_values items occasion.now trigger } in
    ap (λ c. judged c occasion (sight calls) id trigger held all) same ∙ ap (λ v. judged stage occasion (sight v) id trigger held all) (fun_ext values)
    ∙ ap (λ b. judged stage occasion (seen_in items occasion stage.conf.utc_offset trigger) id trigger b all) (h ∙ ap (some_open all) m)
    ∙ sym (judged_is stage occasion items all id trigger there)

-- what holds of the records of each verdict that closes some of the open problems
pub judged_has : (P : EventId → Type 0) (R : List Rec → Type 0) (stage : Stage) (occasion : Occasion) (seen : Seen) (id : ℕ) (trigger : Trigger) (held : Bool) (all : ℕ → List Open)
    → ((v : Verdict) → EachClosed P v → R (verdict_records stage occasion.number occasion.now seen.values id trigger all v)) → Each (λ o. P (event_in o)) (all id) → R (judged stage occasion seen id trigger held all)
judged_has P R stage occasion seen id trigger held all f h =
    let p : Option ℤ = expression_value seen.calls trigger.expr in
    let r : Option ℤ = recovery_value seen.calls trigger.recovery_expr in
    let tags : List Tag = event_tags stage.conf id seen.values in
    f (verdict_over trigger held (all id) p r tags occasion.is_value) (closes_own P trigger held (all id) p r tags occasion.is_value h)

-- and one that isn't
pub evaluated_none : (stage : Stage) (occasion : Occasion) (items : ℕ → List Stored) (all : ℕ → List Open) (id : ℕ) → at_id stage.conf.triggers id ≡ None → evaluated stage occasion items all id ≡ []
unfolding evaluated
evaluated_none stage occasion items all id e = ap (records_by stage occasion items all id) e
