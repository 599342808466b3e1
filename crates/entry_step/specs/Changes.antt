-- How a step changes what is kept of the triggers, and how that is put back.
use Rattle.std.specs.Prelude.{◌≡◌, ◌⊎◌, ℕ, ◌-◌, ◌==◌, ◌||◌, Bool, true, List, [], ◌∷◌, ◌++◌, reverse, take, length, Option, Some, None, is_some, ℤ, if◌then◌else◌, slice_set, slice_index_or}
use Rattle.std.specs.List.{list_any}
use Rattle.std.specs.Option.{unwrap_or}
use Rattle.zbx_types.specs.declared.conf.Conf.{Conf}
use Rattle.trigger_state.specs.Stages.{Stage, OwnsEvents, home}
use Rattle.zbx_types.specs.declared.triggers.Trigger.{Trigger}
use Rattle.zbx_types.specs.declared.entries.EventId.{EventId}
use Rattle.zbx_types.specs.declared.entries.Rec.{Rec}
use Rattle.zbx_types.specs.declared.entries.Stored.{Stored}
use Rattle.trigger_state.specs.Problems.{event_in, absorbed_all}
use Rattle.trigger_state.specs.Verdicts.{verdict_over}
use Rattle.trigger_state.specs.declared.answer.Verdict.{Verdict}
use Rattle.trigger_state.specs.declared.answer.Verdict.TheVariants.{Nothing, New, Close}
use Rattle.zbx_types.specs.declared.entries.Tag.{Tag}
use Rattle.event_text.specs.Titles.{event_tags}
use Rattle.entry_step.specs.Each.{Each}
use Rattle.entry_step.specs.Due.{due_for, due_over}
use Rattle.entry_step.specs.declared.due.Due.{Due}
use Rattle.entry_step.specs.Seen.{Seen}
use Rattle.entry_step.specs.Records.{verdict_records, evaluated, phase, has_call}
use Rattle.conf_index.specs.Evaluation.{expression_value, recovery_value}
use Rattle.conf_index.specs.Timed.{timed_triggers}
use Rattle.entry_step.specs.Represents.{CellsView, problems_at, AllAtHome}
use Rattle.value_cache.specs.Cells.{CellView}
use Rattle.zbx_types.specs.Ids.{at_id}
use Rattle.preprocess.specs.Draft.{stored_at, failures_of}
use Rattle.preprocess.specs.Cached.{DraftView}
use Rattle.preprocess.specs.declared.visit.Visit.{Visit}
use Rattle.entry_step.specs.Kept.{still_to_come, SeesFor, CameIn}
use Rattle.trigger_state.specs.declared.problems.Open.{Open}
use Rattle.entry_step.specs.declared.occasions.Occasion.{Occasion}
use Rattle.entry_step.specs.declared.changes.Before.{Before}
use Rattle.entry_step.specs.declared.changes.Before.TheVariants as before
use Rattle.entry_step.specs.declared.changes.Change.{Change}
use Rattle.entry_step.specs.declared.changes.Change.TheVariants as change
use Rattle.entry_step.specs.declared.changes.Fresh.{Fresh}
use Rattle.entry_step.specs.declared.changes.Row.{Row}
use Rattle.entry_step.specs.declared.changes.TriggerOutcome.{TriggerOutcome}

-- the rows with another one at an id, where there is one
unfoldable pub with_row : List (List Open) → ℕ → List Open → List (List Open)
with_row rows id os = if id == 0 then rows else slice_set rows (id - 1) os

-- open problems as they were before
abbrev pub restored : List Open → Before → List Open
restored os (before.First count) = take count os
restored os (before.All all) = all

-- the rows with some of them as they were before, one after another
abbrev pub with_rows : List (List Open) → List Row → List (List Open)
with_rows rows [] = rows
with_rows rows (r ∷ rs) = with_rows (slice_set rows r.index (restored (slice_index_or rows r.index []) r.before)) rs

-- the rows once those that were taken out are put back, the last first
unfoldable pub put_back : List (List Open) → List Row → List (List Open)
put_back rows taken = with_rows rows (reverse taken)

-- open problems behind a change
abbrev pub changed : List Open → Change → List Open
changed os (change.Add one) = os ++ one ∷ []
changed os (change.Leave all) = all

-- the records that an outcome adds. No outcome: none.
abbrev pub outcome_records : Option TriggerOutcome → List Rec
outcome_records None = []
outcome_records (Some o) = o.records

-- the rows with fresh ones of some triggers, one after another
abbrev pub with_all : List (List Open) → List Fresh → List (List Open)
with_all rows [] = rows
with_all rows (f ∷ fs) = with_all (with_row rows f.id f.opens) fs

-- the rows behind the outcome of the trigger with an id. No outcome: nothing changes.
abbrev pub outcome_rows : List (List Open) → ℕ → Option TriggerOutcome → List (List Open)
outcome_rows rows id None = rows
outcome_rows rows id (Some o) = with_all (with_row rows id (changed (problems_at rows id) o.change)) o.others

-- fresh open problems of a trigger: those in the rows with more records
abbrev pub IsAbsorbed : Stage → List (List Open) → List Rec → Fresh → Type 0
IsAbsorbed stage rows more f = f.opens ≡ absorbed_all stage f.id (problems_at rows f.id) more

-- the trigger with an id has fresh ones
abbrev pub has_fresh : List Fresh → ℕ → Bool
has_fresh fresh id = list_any (λ f. f.id == id) fresh

-- the outcome of a new problem with its record alone: the problem is one more
pub record Adds (one : Open) (records : List Rec) (o : TriggerOutcome) : Type 0 where
  pub made : o.records ≡ records
  pub alone : length records ≡ 1
  pub own : o.change ≡ change.Add one
  pub others : o.others ≡ []

-- the outcome of some records: the open problems of the trigger with an id behind them, and those of the triggers of
-- these events
pub record Leaves (stage : Stage) (rows : List (List Open)) (id : ℕ) (events : List EventId) (records : List Rec)
    (o : TriggerOutcome) : Type 0 where
  pub made : o.records ≡ records
  pub own : o.change ≡ change.Leave (absorbed_all stage id (problems_at rows id) records)
  pub others : Each (IsAbsorbed stage rows records) o.others
  pub whole : Each (λ (e : EventId). ((id == home stage e) || has_fresh o.others (home stage e)) ≡ true) events

-- the outcome of a new problem that makes these records, as rules close the problems of these events
abbrev pub Lands : Stage → List (List Open) → ℕ → Open → List EventId → List Rec → TriggerOutcome → Type 0
Lands stage rows id one events records o = Adds one records o ⊎ Leaves stage rows id events records o

-- each event that a verdict closes has the property
abbrev pub EachClosed : (EventId → Type 0) → Verdict → Type 0
EachClosed P Nothing = Unit {0}
EachClosed P New = Unit {0}
EachClosed P (Close events) = Each P events

-- what a trigger adds that sees this and is held or not, over the open problems of all triggers
abbrev pub judged : Stage → Occasion → Seen → ℕ → Trigger → Bool → (ℕ → List Open) → List Rec
judged stage occasion seen id trigger held all =
    verdict_records stage occasion.number occasion.now seen.values id trigger all
    (verdict_over trigger held (all id) (expression_value seen.calls trigger.expr)
    (recovery_value seen.calls trigger.recovery_expr) (event_tags stage.conf id seen.values) occasion.is_value)

-- tags serve a trigger in place of others: with both it has the same verdict over its open problems
abbrev pub Serve : Trigger → List Open → List Tag → List Tag → Type 0
Serve trigger os tags others =
    (held : Bool) (p r : Option ℤ) (is_value : Bool) → verdict_over trigger held os p r tags is_value ≡ verdict_over
    trigger held os p r others is_value

-- the triggers of the events of the entry with a number have the ids in them, each trigger has a row, and each open problem
-- is in the row of its own trigger
pub record AreTidy (stage : Stage) (number : ℕ) (rows : List (List Open)) : Type 0 where
  pub own : OwnsEvents stage number
  pub size : length rows ≡ length stage.conf.triggers
  pub homes : (id : ℕ) → AllAtHome stage id (problems_at rows id)

-- the triggers with these ids, evaluated one after another over rows, make these records and leave these rows
pub record Runs (stage : Stage) (one : (ℕ → List Open) → ℕ → List Rec) (before : List (List Open)) (ids : List ℕ)
    (made : List Rec) (rows : List (List Open)) : Type 0 where
  pub records : made ≡ phase stage one (problems_at before) ids
  pub changes : (id : ℕ) → problems_at rows id ≡ absorbed_all stage id (problems_at before id) made
  pub size : length rows ≡ length before

-- triggers are evaluated on an occasion, over whichever histories they are shown by cells with what is still to come
abbrev pub RunsOver : Stage → Occasion → List CellView → (ℕ → Option Stored) → List (List Open) → List ℕ → List Rec
    → List (List Open) → Type 0
RunsOver stage occasion cells stored before ids made rows =
    (items : ℕ → List Stored) → Each (SeesFor stage.conf cells stored occasion.now items) ids → AreTidy stage occasion.number before
    → Runs stage (evaluated stage occasion items) before ids made rows

-- one trigger more, if it is evaluated: whatever was evaluated before it and made these records and rows, now these
-- are made
abbrev pub RunsOn : Stage → Occasion → List CellView → (ℕ → Option Stored) → Bool → ℕ → List Rec → List (List Open)
    → List Rec → List (List Open) → Type 0
RunsOn stage occasion cells stored asked id made rows more next =
    (items : ℕ → List Stored) (before : List (List Open)) (ids : List ℕ) → AreTidy stage occasion.number before
    → Runs stage (evaluated stage occasion items) before ids made rows
    → (asked ≡ true → SeesFor stage.conf cells stored occasion.now items id)
    → Runs stage (evaluated stage occasion items) before (if asked then ids ++ id ∷ [] else ids) more next

-- the triggers with a call over an item that a draft stores a value of; without a draft all
abbrev pub is_asked : Conf → Option DraftView → ℕ → Bool
is_asked conf None id = true
is_asked conf (Some draft) id = has_call (λ item. is_some (stored_at draft.visits item)) (at_id conf.triggers id)

-- triggers are evaluated over cells with what is still to come, and their records stand behind some failures
pub record Drafted (stage : Stage) (occasion : Occasion) (coming : Option DraftView) (ids : List ℕ) (failures : List Rec)
    (cells : List CellView) (before : List (List Open)) (made : List Rec) (rows : List (List Open)) : Type 0 where
  pub judged : List Rec
  pub runs : RunsOver stage occasion cells (still_to_come coming) before ids judged rows
  pub records : made ≡ failures ++ judged

-- the cells take in these visits of a value: the triggers over what is stored are evaluated, and their records stand
-- behind the failures
pub record TakesIn (stage : Stage) (occasion : Occasion) (visits : List Visit) (ids : List ℕ) (before : CellsView)
    (made : List Rec) (after : CellsView) : Type 0 where
  pub judged : List Rec
  pub runs : RunsOver stage occasion before.items (stored_at visits) before.problems ids judged after.problems
  pub records : made ≡ failures_of stage.conf occasion.number visits ++ judged
  pub came : CameIn occasion.now visits before.items after.items before.memories after.memories
  pub tick : after.tick ≡ before.tick

-- records change the rows that were there before into these
pub record Absorbed (stage : Stage) (before : List (List Open)) (made : List Rec) (rows : List (List Open)) : Type 0 where
  pub each : (id : ℕ) → problems_at rows id ≡ absorbed_all stage id (problems_at before id) made
  pub size : length rows ≡ length before

-- the cells take a Tick: the triggers are evaluated, and then the steps run that are due over the rows that these leave
pub record TakesTick (stage : Stage) (occasion : Occasion) (before : CellsView) (made : List Rec)
    (after : CellsView) : Type 0 where
  pub judged : List Rec
  pub rows : List (List Open)
  pub runs : RunsOver stage occasion before.items (λ id. None) before.problems (timed_triggers stage.conf) judged rows
  pub records : made ≡ judged ++ due_over stage occasion.now (problems_at rows)
  pub changes : Absorbed stage rows (due_over stage occasion.now (problems_at rows)) after.problems
  pub items : after.items ≡ before.items
  pub memories : after.memories ≡ before.memories
  pub tick : after.tick ≡ occasion.tick

-- what is due for an open problem, with its event
abbrev pub due_of : Stage → ℕ → Open → Due
due_of stage now o = record { event = event_in o; records = due_for stage now o }

-- rows with a fresh one in a place, where there is one
abbrev pub with_fresh : List (List Open) → ℕ → Option (List Open) → List (List Open)
with_fresh rows index None = rows
with_fresh rows index (Some row) = slice_set rows index row

-- rows, where fresh ones are there in place of them
abbrev pub laid : List (List Open) → List (Option (List Open)) → List (List Open)
laid [] fresh = []
laid (row ∷ rows) [] = row ∷ rows
laid (row ∷ rows) (f ∷ fresh) = unwrap_or f row ∷ laid rows fresh
