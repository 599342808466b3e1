-- The Problems of an entry are of its number.
use Rattle.std.proofs.Common.{◌≡◌, ℕ, Option, Some, None, List, [], ◌∷◌, ◌++◌, refl, sym, subst, flat_map}
use Rattle.zbx_types.specs.Entries.{moment_of}
use Rattle.zbx_types.specs.Ids.{at_id}
use Rattle.zbx_types.specs.declared.conf.Conf.{Conf}
use Rattle.zbx_types.specs.declared.entries.Cause2.TheVariants as causes
use Rattle.zbx_types.specs.declared.entries.Entry.{Entry}
use Rattle.zbx_types.specs.declared.entries.Entry.TheVariants.{Config, Value, Tick}
use Rattle.zbx_types.specs.declared.entries.Held.{Held}
use Rattle.zbx_types.specs.declared.entries.Numbered.{Numbered}
use Rattle.zbx_types.specs.declared.entries.Rec.{Rec}
use Rattle.zbx_types.specs.declared.entries.Rec.TheVariants.{Failure, Problem, Recovery, Step, Message}
use Rattle.zbx_types.specs.declared.entries.Stored.{Stored}
use Rattle.zbx_types.specs.declared.triggers.Trigger.{Trigger}
use Rattle.trigger_state.specs.Problems.{event_in, open_of}
use Rattle.trigger_state.specs.Stages.{Stage, home}
use Rattle.trigger_state.specs.Verdicts.{is_held}
use Rattle.trigger_state.specs.declared.answer.Verdict.{Verdict}
use Rattle.trigger_state.specs.declared.answer.Verdict.TheVariants.{Nothing, New, Close}
use Rattle.trigger_state.specs.declared.problems.Open.{Open}
use Rattle.entry_step.specs.Due.{by_making, due_for, due_over, due_at}
use Rattle.entry_step.specs.Each.{Each}
use Rattle.entry_step.specs.History.{memory_of, history_of}
use Rattle.entry_step.specs.Log.{first_tick}
use Rattle.entry_step.specs.Occasions.{occasion_of}
use Rattle.entry_step.specs.Records.{problem_of, closed_records, ruled, verdict_records, evaluated, phase_over, triggers_at, failures_at, judged_of, out_of}
use Rattle.entry_step.specs.Seen.{shown_values, seen_in}
use Rattle.entry_step.specs.Start.{Start}
use Rattle.entry_step.proofs.Landing.{judged_is, judged_has, evaluated_none}
use Rattle.entry_step.proofs.Making.{OfProblem}
use Rattle.entry_step.proofs.Members.{each_append, each_from, each_sub}
use Rattle.entry_step.proofs.Said.{each_flat_map, due_about, IsQuiet, about_quiet, closed_quiet, begun_quiet}
use Rattle.entry_laws.proofs.Runs.{IsPlain, failures_plain}

-- a Problem is of this entry
abbrev pub OfEntry : ℕ → Rec → Type 0
OfEntry n r = OfProblem (λ v. v.number ≡ n) r

quiet_of : (n : ℕ) (rs : List Rec) → Each IsQuiet rs → Each (OfEntry n) rs
quiet_of n rs q = each_sub IsQuiet (OfEntry n) rs one q
  where
    one : (r : Rec) → IsQuiet r → OfEntry n r
    one (Problem event now severity suppressed host trigger name tags) is = absurd is
    one (Recovery event by now cause) is = tt
    one (Failure number host key why) is = tt
    one (Step event action step now) is = tt
    one (Message event action step recipient subject body) is = tt

pub plain_of : (n : ℕ) (rs : List Rec) → Each IsPlain rs → Each (OfEntry n) rs
plain_of n rs q = each_sub IsPlain (OfEntry n) rs one q
  where
    one : (r : Rec) → IsPlain r → OfEntry n r
    one (Problem event now severity suppressed host trigger name tags) is = absurd is
    one (Recovery event by now cause) is = tt
    one (Failure number host key why) is = tt
    one (Step event action step now) is = absurd is
    one (Message event action step recipient subject body) is = tt

verdict_of : (stage : Stage) (number now : ℕ) (values : List (Option Held)) (all : ℕ → List Open) (id : ℕ) (trigger : Trigger) (v : Verdict) → Each (OfEntry number) (verdict_records stage number now values id trigger all v)
unfolding verdict_records problem_of
verdict_of stage number now values all id trigger Nothing = tt
verdict_of stage number now values all id trigger New =
    let problem : Rec = problem_of stage.conf number now values id trigger in
    (refl, quiet_of number _ (begun_quiet stage number now all id problem (ruled stage problem all)))
verdict_of stage number now values all id trigger (Close events) =
    quiet_of number (flat_map (closed_records stage.conf number now causes.Expression (all id)) events) (closed_quiet stage.conf number now causes.Expression (λ e. all id) events)

pub evaluated_of : (stage : Stage) (tick : Option ℕ) (number : ℕ) (entry : Entry) (items : ℕ → List Stored) (all : ℕ → List Open) (id : ℕ) → Each (OfEntry number) (evaluated stage (occasion_of tick number entry) items all id)
evaluated_of stage tick number entry items all id = go (at_id stage.conf.triggers id) refl
  where
    go : (t : Option Trigger) → at_id stage.conf.triggers id ≡ t → Each (OfEntry number) (evaluated stage (occasion_of tick number entry) items all id)
    go None e = subst (Each (OfEntry number)) (sym (evaluated_none stage (occasion_of tick number entry) items all id e)) tt
    go (Some trigger) e =
        subst (Each (OfEntry number)) (sym (judged_is stage (occasion_of tick number entry) items all id trigger e))
        (judged_has (λ x. Unit {0}) (Each (OfEntry number)) stage (occasion_of tick number entry) (seen_in items (occasion_of tick number entry) stage.conf.utc_offset trigger) id trigger (is_held stage.conf all id) all
        (λ v c. verdict_of stage number (moment_of entry) (shown_values items (moment_of entry) trigger) all id trigger v) (each_from (λ o. Unit {0}) (all id) (λ o i. tt)))

phase_of : (stage : Stage) (tick : Option ℕ) (number : ℕ) (entry : Entry) (items : ℕ → List Stored) (rs : List Rec) (ids : List ℕ) → Each (OfEntry number) (phase_over stage (evaluated stage (occasion_of tick number entry) items) rs ids)
phase_of stage tick number entry items rs [] = tt
phase_of stage tick number entry items rs (id ∷ ids) =
    let new : List Rec = evaluated stage (occasion_of tick number entry) items (open_of stage rs) id in
    each_append (OfEntry number) new (phase_over stage (evaluated stage (occasion_of tick number entry) items) (rs ++ new) ids) (evaluated_of stage tick number entry items (open_of stage rs) id) (phase_of stage tick number entry items (rs ++ new) ids)

pub due_of : (stage : Stage) (n : ℕ) (entry : Entry) (all : ℕ → List Open) → Each (OfEntry n) (due_at stage entry all)
unfolding due_at due_over
due_of stage n (Config now text) all = tt
due_of stage n (Value now item time value) all = tt
due_of stage n (Tick now) all =
    each_flat_map (OfEntry n) (due_for stage now) (by_making stage all)
    (λ o. quiet_of n (due_for stage now o) (about_quiet (event_in o) (due_for stage now o) (due_about stage.conf (home stage (event_in o)) o.problem o.steps now)))

pub out_of_entry : (start : Start) (log : List Numbered) (e : Numbered) (rs : List Rec) → Each (OfEntry e.number) (out_of start log e e.entry rs)
unfolding out_of judged_of
out_of_entry start log e rs =
    let conf : Conf = start.stage.conf in
    let failures : List Rec = failures_at conf (memory_of start log) e.number e.entry in
    let ids : List ℕ = triggers_at conf (memory_of start log) e.number e.entry in
    let items : ℕ → List Stored = history_of start (e ∷ log) in
    let made : List Rec = phase_over start.stage (evaluated start.stage (occasion_of (first_tick start log) e.number e.entry) items) (rs ++ failures) ids in
    each_append (OfEntry e.number) (failures ++ made) (due_at start.stage e.entry (open_of start.stage (rs ++ (failures ++ made))))
    (each_append (OfEntry e.number) failures made (plain_of e.number failures (failures_plain conf (memory_of start log) e.number e.entry)) (phase_of start.stage (first_tick start log) e.number e.entry items (rs ++ failures) ids))
    (due_of start.stage e.number e.entry (open_of start.stage (rs ++ (failures ++ made))))
