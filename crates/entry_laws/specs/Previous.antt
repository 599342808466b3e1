-- The previous value of a step, found by a search for the last value that marked it.
use Rattle.std.specs.Prelude.{◌≡◌, ℕ, zero, suc, ◌+◌, ◌-◌, nat_le, Bool, ◌&&◌, List, [], ◌∷◌, length, Option, Some, None, is_some, option_map, option_and_then, if◌then◌else◌}
use Rattle.std.specs.Option.{unwrap_or}
use Rattle.zbx_types.specs.Ids.{at_id}
use Rattle.zbx_types.specs.Written.{written}
use Rattle.zbx_types.specs.declared.conf.Conf.{Conf}
use Rattle.zbx_types.specs.declared.entries.Entry.{Entry}
use Rattle.zbx_types.specs.declared.entries.Entry.TheVariants.{Config, Value, Tick}
use Rattle.zbx_types.specs.declared.entries.Numbered.{Numbered}
use Rattle.zbx_types.specs.declared.items.Item.{Item}
use Rattle.zbx_types.specs.declared.steps.StepKind.{StepKind}
use Rattle.zbx_types.specs.declared.steps.StepKind.TheVariants.{SimpleChange, ChangePerSecond, Throttle, ThrottleHeartbeat}
use Rattle.zbx_types.specs.declared.steps.StepSpec.{StepSpec}
use Rattle.prep_steps.specs.Changes.{previous}
use Rattle.prep_steps.specs.Numbering.{number_of}
use Rattle.prep_steps.specs.Outcomes.{marked}
use Rattle.prep_steps.specs.declared.memory.StepMemory.{StepMemory}
use Rattle.prep_steps.specs.declared.outcome.Outcome.{Outcome}
use Rattle.prep_steps.specs.declared.outcome.Outcome.TheVariants as outcomes
use Rattle.preprocess.specs.Chain.{step_done, settled}
use Rattle.preprocess.specs.Draft.{visit_at}
use Rattle.preprocess.specs.Visits.{Arrival, came, visits_of}
use Rattle.preprocess.specs.Ways.{memory_at}
use Rattle.entry_step.specs.History.{memory_of}
use Rattle.entry_step.specs.Start.{Start, fresh}
use Rattle.trigger_state.specs.Stages.{Stage}

-- what a number that came to a step leaves there; a text that writes none leaves nothing
abbrev pub number_mark : ℕ → List ℕ → Option StepMemory
number_mark time value = option_map (λ z. marked time (written z)) (number_of value)

-- a number isn't later than the previous one
abbrev pub is_passed_over : StepMemory → ℕ → Bool
is_passed_over memory time = is_some (previous memory) && nat_le time memory.time

-- a value that passed a step leaves itself there
abbrev pub passing_mark : ℕ → List ℕ → Outcome → Option StepMemory
passing_mark time value (outcomes.Value passed) = Some (marked time value)
passing_mark time value outcomes.Discard = None
passing_mark time value (outcomes.Fail why) = None

-- What a value that came to a step of a kind marks it with, if it does, where the step remembers this. A number marks a
-- change, but at a change per second one that isn't later than the previous one doesn't. A value that passed marks what
-- throttles. Nothing marks another step.
abbrev pub marks_by : StepKind → StepSpec → StepMemory → List ℕ → ℕ → Option StepMemory
marks_by SimpleChange step memory value time = number_mark time value
marks_by ChangePerSecond step memory value time = if is_passed_over memory time then None else number_mark time value
marks_by Throttle step memory value time = passing_mark time value (step_done step memory value time).outcome
marks_by ThrottleHeartbeat step memory value time = passing_mark time value (step_done step memory value time).outcome
marks_by _ step memory value time = None

-- what a step that lets a value through makes of it goes on to the next steps
abbrev pub where_goes_on : (List ℕ → Option StepMemory) → Outcome → Option StepMemory
where_goes_on f (outcomes.Value value) = f value
where_goes_on f outcomes.Discard = None
where_goes_on f (outcomes.Fail why) = None

-- What a value that comes to the first of some steps, which has this number, marks the step at a place with, if it comes
-- there and does: each step is given what the one before it made.
abbrev pub mark_in : List StepSpec → ℕ → (ℕ → StepMemory) → ℕ → ℕ → List ℕ → Option StepMemory
mark_in [] first memory time place value = None
mark_in (step ∷ steps) first memory time zero value = marks_by step.kind step (memory first) value time
mark_in (step ∷ steps) first memory time (suc place) value =
    where_goes_on (λ v. mark_in steps (first + 1) memory time place v)
    (settled step first (step_done step (memory first) value time).outcome)

-- the same of an item's step, by its number from 1 on, where some text comes to the item
abbrev pub mark_of : (ℕ → StepMemory) → ℕ → ℕ → Option Item → Option (List ℕ) → Option StepMemory
mark_of memory time k None came = None
mark_of memory time k (Some item) came = option_and_then (λ value. mark_in item.steps 1 memory time (k - 1) value) came

-- what the value of an entry marks a step of an item with, if it visits the item and does, where the steps remember this
abbrev pub marked_by : Conf → (ℕ → ℕ → StepMemory) → Arrival → ℕ → ℕ → Option StepMemory
marked_by conf memory arrival i k =
    if is_some (visit_at (visits_of conf memory arrival) i)
    then mark_of (memory i) arrival.time k (at_id conf.items i) (came conf memory arrival (length conf.items) i) else None

-- and what an entry does
abbrev pub marked_at : Conf → (ℕ → ℕ → StepMemory) → ℕ → Entry → ℕ → ℕ → Option StepMemory
marked_at conf memory number (Config now text) i k = None
marked_at conf memory number (Tick now) i k = None
marked_at conf memory number (Value now item time value) i k =
    marked_by conf memory (record { item = item; time = time; number = number; value = value }) i k

-- What the last value that marked a step of an item left there, behind a log: the newest entry that marked it is found by
-- a search, and where none did it is what the start has.
unfoldable pub last_mark : Start → List Numbered → ℕ → ℕ → StepMemory
last_mark start [] i k = memory_at (start.marks i) k
last_mark start (e ∷ log) i k =
    unwrap_or (marked_at start.stage.conf (last_mark start log) e.number e.entry i k) (last_mark start log i k)

-- a start has a mark for each step of each item
abbrev pub HasMarks : Start → Type 0
HasMarks start =
    (i : ℕ) (item : Item) → at_id start.stage.conf.items i ≡ Some item → length (start.marks i) ≡ length item.steps

-- What a step remembers behind a log is what the last value that marked it left there.
abbrev pub PreviousIs : Type 0
PreviousIs = (start : Start) (log : List Numbered) → HasMarks start → (i k : ℕ) → memory_of start log i k ≡ last_mark start log i k

-- a fresh start has a mark for each step, and none of them is marked
abbrev pub FreshHasMarks : Type 0
FreshHasMarks = (stage : Stage) → HasMarks (fresh stage)
