-- The records of an entry are dated.
use Rattle.std.proofs.Common.{◌≡◌, ◌≤◌, ℕ, ◌+◌, Bool, true, false, Option, Some, None, List, [], ◌∷◌, ◌++◌, map, flat_map, refl, sym, subst, le_refl, arith}
use Rattle.zbx_types.specs.Entries.{moment_of}
use Rattle.zbx_types.specs.Ids.{at_id}
use Rattle.zbx_types.specs.Records.{tags_of}
use Rattle.zbx_types.specs.declared.actions.Action.{Action}
use Rattle.zbx_types.specs.declared.conf.Conf.{Conf}
use Rattle.zbx_types.specs.declared.entries.Cause2.TheVariants as causes
use Rattle.zbx_types.specs.declared.entries.Entry.{Entry}
use Rattle.zbx_types.specs.declared.entries.Entry.TheVariants.{Config, Value, Tick}
use Rattle.zbx_types.specs.declared.entries.Held.{Held}
use Rattle.zbx_types.specs.declared.entries.Numbered.{Numbered}
use Rattle.zbx_types.specs.declared.entries.Rec.{Rec}
use Rattle.zbx_types.specs.declared.entries.Rec.TheVariants.{Failure, Problem, Recovery, Step, Message}
use Rattle.zbx_types.specs.declared.entries.Stored.{Stored}
use Rattle.zbx_types.specs.declared.triggers.Trigger.{Trigger}
use Rattle.maintenance.specs.Suppression.{is_suppressed}
use Rattle.escalations.specs.Escalations.{next_step, records_at, next_records, due_records_of}
use Rattle.escalations.specs.Messages.{message_to, operation_records}
use Rattle.escalations.specs.Steps.{operations_of, number_behind, last_step}
use Rattle.event_correlation.specs.declared.answer.Closes.{Closes}
use Rattle.trigger_state.specs.Problems.{event_in, open_of}
use Rattle.trigger_state.specs.Stages.{Stage, home}
use Rattle.trigger_state.specs.Verdicts.{is_held}
use Rattle.trigger_state.specs.declared.answer.Verdict.{Verdict}
use Rattle.trigger_state.specs.declared.answer.Verdict.TheVariants.{Nothing, New, Close}
use Rattle.trigger_state.specs.declared.problems.Open.{Open}
use Rattle.entry_step.specs.Due.{by_making, due_for, due_over, due_at}
use Rattle.entry_step.specs.Each.{Each}
use Rattle.entry_step.specs.History.{memory_of, history_of}
use Rattle.entry_step.specs.Log.{first_tick}
use Rattle.entry_step.specs.Occasions.{occasion_of}
use Rattle.entry_step.specs.Records.{problem_of, closed_records, ruled, ruled_records, last_records, begun_records, verdict_records, evaluated, phase_over, triggers_at, failures_at, judged_of, out_of}
use Rattle.entry_step.specs.Seen.{shown_values, seen_in}
use Rattle.entry_step.specs.Start.{Start}
use Rattle.entry_laws.specs.Rising.{IsNext, AreNext}
use Rattle.entry_step.proofs.Landing.{judged_is, judged_has, evaluated_none}
use Rattle.entry_step.proofs.Members.{each_append, each_from, each_sub}
use Rattle.entry_step.proofs.Said.{each_flat_map}
use Rattle.entry_laws.proofs.Runs.{IsPlain, closed_plain, failures_plain}
use Rattle.base_laws.specs.Dated.{IsDatedBy, HasSeverities}

-- whatever its number, a step is of a moment up to this one
abbrev pub Stamped : ℕ → Rec → Type 0
Stamped moment (Problem event now severity suppressed host trigger name tags) = (now ≤ moment) × (severity ≤ 5)
Stamped moment (Step event action step now) = now ≤ moment
Stamped moment (Failure number host key why) = Unit {0}
Stamped moment (Recovery event by now cause) = Unit {0}
Stamped moment (Message event action step recipient subject body) = Unit {0}

plain_stamped : (m : ℕ) (rs : List Rec) → Each IsPlain rs → Each (Stamped m) rs
plain_stamped m rs h = each_sub IsPlain (Stamped m) rs one h
  where
    one : (r : Rec) → IsPlain r → Stamped m r
    one (Problem event now severity suppressed host trigger name tags) is = absurd is
    one (Step event action step now) is = absurd is
    one (Recovery event by now cause) is = tt
    one (Failure number host key why) is = tt
    one (Message event action step recipient subject body) is = tt

-- Steps of actions
messages_stamped : (m : ℕ) (conf : Conf) (problem : Rec) (recovered : Option ℕ) (action : List ℕ) (step : ℕ) (subject body : List ℕ) (recipients : List (List ℕ)) → Each (Stamped m) (map (message_to conf problem recovered action step subject body) recipients)
messages_stamped m conf problem recovered action step subject body [] = tt
messages_stamped m conf problem recovered action step subject body (r ∷ rs) = (tt, messages_stamped m conf problem recovered action step subject body rs)

next_stamped : (conf : Conf) (problem : Rec) (now : ℕ) (action : Action) (o : Option ℕ) → Each (Stamped now) (records_at conf problem now action o)
next_stamped conf problem now action None = tt
next_stamped conf problem now action (Some step) = (
  le_refl now,
  each_flat_map (Stamped now) (operation_records conf problem action.name step) (operations_of action step)
      (λ operation. messages_stamped now conf problem None action.name step operation.subject operation.body operation.recipients),
)

due_stamped : (conf : Conf) (trigger : ℕ) (problem : Rec) (steps : List Rec) (now : ℕ) → Each (Stamped now) (due_records_of conf trigger problem steps now)
unfolding due_records_of next_records
due_stamped conf trigger problem steps now =
    let quiet : Bool = is_suppressed conf trigger (tags_of problem) now in
    each_flat_map (Stamped now) (next_records conf quiet problem steps now) conf.actions
    (λ action. next_stamped conf problem now action (next_step conf quiet steps problem action now))

-- Triggers
module _ (stage : Stage) (severe : HasSeverities stage.conf) (number now : ℕ) where
  last_stamped : (id : ℕ) (problem : Rec) (is_closed : Bool) → Each (Stamped now) (last_records stage.conf number now id problem is_closed)
  last_stamped id problem true = (tt, tt)
  last_stamped id problem false = due_stamped stage.conf id problem [] now

  begun_stamped : (values : List (Option Held)) (all : ℕ → List Open) (id : ℕ) (trigger : Trigger) → at_id stage.conf.triggers id ≡ Some trigger → Each (Stamped now) (begun_records stage number now all id (problem_of stage.conf number now values id trigger))
  unfolding problem_of
  begun_stamped values all id trigger there =
      let problem : Rec = problem_of stage.conf number now values id trigger in
      let closes : Closes = ruled stage problem all in (
        (le_refl now, severe id trigger there),
        each_append (Stamped now) (ruled_records stage number now all closes.old) (last_records stage.conf number now id problem closes.new)
            (plain_stamped now (ruled_records stage number now all closes.old) (closed_plain stage.conf number now causes.Correlation (λ e. all (home stage e)) closes.old)) (last_stamped id problem closes.new),
      )

  verdict_stamped : (values : List (Option Held)) (all : ℕ → List Open) (id : ℕ) (trigger : Trigger) → at_id stage.conf.triggers id ≡ Some trigger → (v : Verdict) → Each (Stamped now) (verdict_records stage number now values id trigger all v)
  unfolding verdict_records
  verdict_stamped values all id trigger there Nothing = tt
  verdict_stamped values all id trigger there New = begun_stamped values all id trigger there
  verdict_stamped values all id trigger there (Close events) =
      plain_stamped now (flat_map (closed_records stage.conf number now causes.Expression (all id)) events) (closed_plain stage.conf number now causes.Expression (λ e. all id) events)

module _ (stage : Stage) (severe : HasSeverities stage.conf) (tick : Option ℕ) (number : ℕ) (entry : Entry) (items : ℕ → List Stored) where
  evaluated_stamped : (all : ℕ → List Open) (id : ℕ) → Each (Stamped (moment_of entry)) (evaluated stage (occasion_of tick number entry) items all id)
  evaluated_stamped all id = go (at_id stage.conf.triggers id) refl
    where
      go : (t : Option Trigger) → at_id stage.conf.triggers id ≡ t → Each (Stamped (moment_of entry)) (evaluated stage (occasion_of tick number entry) items all id)
      go None e = subst (Each (Stamped (moment_of entry))) (sym (evaluated_none stage (occasion_of tick number entry) items all id e)) tt
      go (Some trigger) e =
          subst (Each (Stamped (moment_of entry))) (sym (judged_is stage (occasion_of tick number entry) items all id trigger e))
          (judged_has (λ x. Unit {0}) (Each (Stamped (moment_of entry))) stage (occasion_of tick number entry) (seen_in items (occasion_of tick number entry) stage.conf.utc_offset trigger) id trigger (is_held stage.conf all id) all
          (λ v c. verdict_stamped stage severe number (moment_of entry) (shown_values items (moment_of entry) trigger) all id trigger e v) (each_from (λ o. Unit {0}) (all id) (λ o i. tt)))

  phase_stamped : (rs : List Rec) (ids : List ℕ) → Each (Stamped (moment_of entry)) (phase_over stage (evaluated stage (occasion_of tick number entry) items) rs ids)
  phase_stamped rs [] = tt
  phase_stamped rs (id ∷ ids) =
      let new : List Rec = evaluated stage (occasion_of tick number entry) items (open_of stage rs) id in
      each_append (Stamped (moment_of entry)) new (phase_over stage (evaluated stage (occasion_of tick number entry) items) (rs ++ new) ids) (evaluated_stamped (open_of stage rs) id) (phase_stamped (rs ++ new) ids)

steps_stamped : (stage : Stage) (entry : Entry) (all : ℕ → List Open) → Each (Stamped (moment_of entry)) (due_at stage entry all)
unfolding due_at due_over
steps_stamped stage (Config now text) all = tt
steps_stamped stage (Value now item time value) all = tt
steps_stamped stage (Tick now) all =
    each_flat_map (Stamped now) (due_for stage now) (by_making stage all) (λ o. due_stamped stage.conf (home stage (event_in o)) o.problem o.steps now)

out_stamped : (start : Start) (log : List Numbered) (e : Numbered) (rs : List Rec) → HasSeverities start.stage.conf → Each (Stamped (moment_of e.entry)) (out_of start log e e.entry rs)
unfolding out_of judged_of
out_stamped start log e rs severe =
    let conf : Conf = start.stage.conf in
    let failures : List Rec = failures_at conf (memory_of start log) e.number e.entry in
    let ids : List ℕ = triggers_at conf (memory_of start log) e.number e.entry in
    let items : ℕ → List Stored = history_of start (e ∷ log) in
    let made : List Rec = phase_over start.stage (evaluated start.stage (occasion_of (first_tick start log) e.number e.entry) items) (rs ++ failures) ids in
    each_append (Stamped (moment_of e.entry)) (failures ++ made) (due_at start.stage e.entry (open_of start.stage (rs ++ (failures ++ made))))
    (each_append (Stamped (moment_of e.entry)) failures made (plain_stamped (moment_of e.entry) failures (failures_plain conf (memory_of start log) e.number e.entry)) (phase_stamped start.stage severe (first_tick start log) e.number e.entry items (rs ++ failures) ids))
    (steps_stamped start.stage e.entry (open_of start.stage (rs ++ (failures ++ made))))

-- a step that is the next one has a number from 1 on
counted : {A : Type 0} (behind : Option A → ℕ) → 1 ≤ behind None → ((x : A) → 1 ≤ behind (Some x)) → (o : Option A) → 1 ≤ behind o
counted behind none some None = none
counted behind none some (Some x) = some x

dated : (m : ℕ) (before : List Rec) (r : Rec) → Stamped m r → IsNext before r → IsDatedBy m r
dated m before (Problem event now severity suppressed host trigger name tags) s n = s
dated m before (Step event action step now) s n = (subst (λ k. 1 ≤ k) (sym n) (counted number_behind (le_refl 1) (λ ran. (let l : 1 ≤ ran.step + 1 = omega arith in l)) (last_step before event action)), s)
dated m before (Failure number host key why) s n = tt
dated m before (Recovery event by now cause) s n = tt
dated m before (Message event action step recipient subject body) s n = tt

all_dated : (m : ℕ) (before rs : List Rec) → Each (Stamped m) rs → AreNext before rs → Each (IsDatedBy m) rs
all_dated m before [] s n = tt
all_dated m before (r ∷ rs) s n = (dated m before r s.0 n.0, all_dated m (before ++ r ∷ []) rs s.1 n.1)

pub out_dated : (start : Start) (log : List Numbered) (e : Numbered) (rs before : List Rec) → HasSeverities start.stage.conf → AreNext before (out_of start log e e.entry rs) → Each (IsDatedBy (moment_of e.entry)) (out_of start log e e.entry rs)
out_dated start log e rs before severe next = all_dated (moment_of e.entry) before (out_of start log e e.entry rs) (out_stamped start log e rs severe) next
