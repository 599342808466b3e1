-- The records that entries make.
use Rattle.std.specs.Prelude.{ℕ, ◌==◌, Bool, false, ◌&&◌, List, [], ◌∷◌, ◌++◌, filter, flat_map, map, Option, Some, None, is_some, if◌then◌else◌, ℤ}
use Rattle.std.specs.List.{list_any}
use Rattle.zbx_types.specs.Hosts.{host_name}
use Rattle.zbx_types.specs.Ids.{at_id}
use Rattle.zbx_types.specs.Trees.{tree_of}
use Rattle.zbx_types.specs.declared.conf.Conf.{Conf}
use Rattle.zbx_types.specs.declared.expr.Expr.{Expr}
use Rattle.zbx_types.specs.declared.triggers.Trigger.{Trigger}
use Rattle.zbx_types.specs.declared.entries.EventId.{EventId}
use Rattle.zbx_types.specs.declared.entries.Entry.{Entry}
use Rattle.zbx_types.specs.declared.entries.Entry.TheVariants.{Config, Value, Tick}
use Rattle.zbx_types.specs.declared.entries.Numbered.{Numbered}
use Rattle.zbx_types.specs.declared.entries.Rec.{Rec}
use Rattle.zbx_types.specs.declared.entries.Rec.TheVariants.{Problem, Recovery}
use Rattle.zbx_types.specs.declared.entries.Cause2.{Cause2}
use Rattle.zbx_types.specs.declared.entries.Cause2.TheVariants as causes
use Rattle.zbx_types.specs.declared.entries.Held.{Held}
use Rattle.zbx_types.specs.declared.entries.Stored.{Stored}
use Rattle.entry_step.specs.Log.{first_tick}
use Rattle.entry_step.specs.Occasions.{occasion_of}
use Rattle.prep_steps.specs.declared.memory.StepMemory.{StepMemory}
use Rattle.preprocess.specs.Draft.{failures_of}
use Rattle.entry_step.specs.History.{visits_at, stored_of, memory_of, history_of}
use Rattle.conf_index.specs.Evaluation.{expression_value, recovery_value}
use Rattle.entry_step.specs.Seen.{Seen, seen_in}
use Rattle.event_text.specs.Titles.{name_of, event_tags}
use Rattle.maintenance.specs.Suppression.{is_suppressed}
use Rattle.escalations.specs.Escalations.{first_records_of, recovered_records}
use Rattle.event_correlation.specs.Closings.{closes_of}
use Rattle.event_correlation.specs.declared.answer.Closes.{Closes}
use Rattle.zbx_types.specs.Records.{same_event, event_of}
use Rattle.conf_index.specs.Order.{order}
use Rattle.conf_index.specs.Timed.{timed_triggers}
use Rattle.entry_step.specs.Due.{by_making, due_at}
use Rattle.trigger_state.specs.Stages.{Stage, home}
use Rattle.trigger_state.specs.Problems.{event_in, open_of, grown}
use Rattle.trigger_state.specs.Verdicts.{verdict_of}
use Rattle.trigger_state.specs.declared.answer.Verdict.{Verdict}
use Rattle.trigger_state.specs.declared.answer.Verdict.TheVariants.{Nothing, New, Close}
use Rattle.trigger_state.specs.declared.problems.Open.{Open}
use Rattle.entry_step.specs.declared.occasions.Occasion.{Occasion}
use Rattle.entry_step.specs.Start.{Start}

-- the Problem record of a trigger at an entry, at which its events show these values. It is suppressed where its
-- trigger is, at this moment and for its own tags.
unfoldable pub problem_of : Conf → ℕ → ℕ → List (Option Held) → ℕ → Trigger → Rec
problem_of conf number now values id trigger =
    Problem (record { number = number; trigger = id }) now trigger.severity
    (is_suppressed conf id (event_tags conf id values) now)
    (host_name (at_id conf.hosts trigger.host)) trigger.name (name_of conf id values) (event_tags conf id values)

-- the Recovery record of an event at an entry
abbrev pub recovery_of : ℕ → ℕ → Cause2 → EventId → Rec
recovery_of number now cause event = Recovery event number now cause

-- what the end of one of these open problems makes: its Recovery, then the recovery messages of the actions that ran
-- a step for it
abbrev pub closed_records : Conf → ℕ → ℕ → Cause2 → List Open → EventId → List Rec
closed_records conf number now cause os event =
    recovery_of number now cause event
    ∷ flat_map (λ o. recovered_records conf o.problem o.steps now) (filter (λ o. same_event (event_in o) event) os)

-- the problems that are open, in the order of making
abbrev pub problems_open : Stage → (ℕ → List Open) → List Rec
problems_open stage all = map (λ o. o.problem) (by_making stage all)

-- what the rules of global correlation close for a new problem, over what was open when it was made
unfoldable pub ruled : Stage → Rec → (ℕ → List Open) → Closes
ruled stage problem all = closes_of stage.conf problem (problems_open stage all)

-- what the ends of the problems that rules close make, each of its own trigger
abbrev pub ruled_records : Stage → ℕ → ℕ → (ℕ → List Open) → List EventId → List Rec
ruled_records stage number now all events =
    flat_map (λ e. closed_records stage.conf number now causes.Correlation (all (home stage e)) e) events

-- what comes last: the new problem's own Recovery where a rule closes it, else step 1 of each action that matches it
-- and isn't paused
abbrev pub last_records : Conf → ℕ → ℕ → ℕ → Rec → Bool → List Rec
last_records conf number now id problem is_closed =
    if is_closed then recovery_of number now causes.Correlation (event_of problem) ∷ [] else first_records_of conf id
    problem now

-- what a new problem of a trigger makes where this closes for it: its record, then the ends of the old problems, then
-- its own end or its first steps
abbrev pub begun_with : Stage → ℕ → ℕ → (ℕ → List Open) → ℕ → Rec → Closes → List Rec
begun_with stage number now all id problem closes =
    problem ∷ ruled_records stage number now all closes.old ++ last_records stage.conf number now id problem closes.new

-- and where the rules tell what closes
abbrev pub begun_records : Stage → ℕ → ℕ → (ℕ → List Open) → ℕ → Rec → List Rec
begun_records stage number now all id problem = begun_with stage number now all id problem (ruled stage problem all)

-- the records that a verdict on a trigger makes over the open problems of all triggers: a new one with what rules
-- close, or the ends of those that close
unfoldable pub verdict_records : Stage → ℕ → ℕ → List (Option Held) → ℕ → Trigger → (ℕ → List Open) → Verdict → List Rec
verdict_records stage number now values id trigger all Nothing = []
verdict_records stage number now values id trigger all New =
    begun_records stage number now all id (problem_of stage.conf number now values id trigger)
verdict_records stage number now values id trigger all (Close events) =
    flat_map (closed_records stage.conf number now causes.Expression (all id)) events

-- the records of the verdict on a trigger that sees this: its tags are those that it has now
abbrev pub judged_by : Stage → Occasion → Seen → (ℕ → List Open) → ℕ → Trigger → List Rec
judged_by stage occasion seen all id trigger =
    verdict_records stage occasion.number occasion.now seen.values id trigger all
    (verdict_of stage.conf all id (expression_value seen.calls trigger.expr)
    (recovery_value seen.calls trigger.recovery_expr) (event_tags stage.conf id seen.values) occasion.is_value)

-- the records of the verdict on the trigger with an id, over these histories. No trigger: none.
abbrev pub records_by : Stage → Occasion → (ℕ → List Stored) → (ℕ → List Open) → ℕ → Option Trigger → List Rec
records_by stage occasion items all id None = []
records_by stage occasion items all id (Some trigger) =
    judged_by stage occasion (seen_in items occasion stage.conf.utc_offset trigger) all id trigger

-- What the trigger with an id adds on an occasion, over the histories of the items and the open problems of the
-- triggers: the records of its verdict.
unfoldable pub evaluated : Stage → Occasion → (ℕ → List Stored) → (ℕ → List Open) → ℕ → List Rec
evaluated stage occasion items all id = records_by stage occasion items all id (at_id stage.conf.triggers id)

-- triggers evaluated one after another, each over the open problems that those before it leave
abbrev pub phase : Stage → ((ℕ → List Open) → ℕ → List Rec) → (ℕ → List Open) → List ℕ → List Rec
phase stage one all [] = []
phase stage one all (id ∷ ids) = one all id ++ phase stage one (grown stage all (one all id)) ids

-- and by search: each over the open problems of all records so far
abbrev pub phase_over : Stage → ((ℕ → List Open) → ℕ → List Rec) → List Rec → List ℕ → List Rec
phase_over stage one rs [] = []
phase_over stage one rs (id ∷ ids) = one (open_of stage rs) id ++ phase_over stage one (rs ++ one (open_of stage rs) id) ids

-- a trigger is enabled and has a call over an item that passes a test
abbrev pub has_call : (ℕ → Bool) → Option Trigger → Bool
has_call test None = false
has_call test (Some trigger) = trigger.enabled && list_any test trigger.call_items

-- a trigger is enabled and has a call over this item
abbrev pub is_over : ℕ → Option Trigger → Bool
is_over item trigger = has_call (λ i. i == item) trigger

-- whether an entry stores a value of an item, where the steps of the items remember this
abbrev pub stores : Conf → (ℕ → ℕ → StepMemory) → ℕ → Entry → ℕ → Bool
stores conf memory number entry item = is_some (stored_of conf memory number entry item)

-- the triggers that an entry evaluates: at a value those with a call over an item that it stores a value of
unfoldable pub triggers_at : Conf → (ℕ → ℕ → StepMemory) → ℕ → Entry → List ℕ
triggers_at conf memory number (Config now text) = []
triggers_at conf memory number (Tick now) = timed_triggers conf
triggers_at conf memory number (Value now item time value) =
    filter (λ id. has_call (stores conf memory number (Value now item time value)) (at_id conf.triggers id))
    (order conf)

-- the Failure records of an entry, in the order of its visits
unfoldable pub failures_at : Conf → (ℕ → ℕ → StepMemory) → ℕ → Entry → List Rec
failures_at conf memory number entry = failures_of conf number (visits_at conf memory number entry)

-- what an entry makes before any step is due, behind this log and the records before it: its failures, and then the
-- records of the triggers that it evaluates
unfoldable pub judged_of : Start → List Numbered → Numbered → Entry → List Rec → List Rec
judged_of start log e entry rs =
    failures_at start.stage.conf (memory_of start log) e.number entry
    ++ phase_over start.stage (evaluated start.stage (occasion_of (first_tick start log) e.number entry) (history_of start (e ∷ log)))
    (rs ++ failures_at start.stage.conf (memory_of start log) e.number entry)
    (triggers_at start.stage.conf (memory_of start log) e.number entry)

-- the records that an entry adds to those before it, behind this log: with those, at a Tick, the steps that are due
-- for what is open then
unfoldable pub out_of : Start → List Numbered → Numbered → Entry → List Rec → List Rec
out_of start log e entry rs =
    judged_of start log e entry rs ++ due_at start.stage entry (open_of start.stage (rs ++ judged_of start log e entry rs))

-- all records that the entries of a log make behind its start, one thread taking them in the order of their numbers
abbrev pub replay : Start → List Numbered → List Rec
replay start [] = []
replay start (e ∷ log) = replay start log ++ out_of start log e e.entry (start.records ++ replay start log)
