-- Cells: what is kept of each item and each trigger, and what they are by search.
use Rattle.std.specs.Prelude.{◌≡◌, ℕ, ◌==◌, Bool, true, false, ◌||◌, List, [], ◌∷◌, ◌++◌, Option, if◌then◌else◌}
use Rattle.std.specs.List.{list_any}
use Rattle.zbx_types.specs.Masters.{has_id}
use Rattle.zbx_types.specs.declared.conf.Conf.{Conf}
use Rattle.trigger_state.specs.Stages.{Stage}
use Rattle.entry_step.specs.Start.{Start}
use Rattle.zbx_types.specs.declared.entries.Entry.{Entry}
use Rattle.zbx_types.specs.declared.entries.Entry.TheVariants.{Config, Value, Tick}
use Rattle.zbx_types.specs.declared.entries.Numbered.{Numbered}
use Rattle.zbx_types.specs.declared.entries.Rec.{Rec}
use Rattle.zbx_types.specs.declared.entries.Stored.{Stored}
use Rattle.footprint.specs.Feet.{feet_of, is_reached}
use Rattle.zbx_types.specs.Entries.{moment_of}
use Rattle.entry_step.specs.Log.{tick_with, first_tick}
use Rattle.entry_step.specs.Occasions.{occasion_of}
use Rattle.prep_steps.specs.declared.memory.StepMemory.{StepMemory}
use Rattle.preprocess.specs.Ways.{memory_at}
use Rattle.preprocess.specs.Draft.{visit_at, marks_after}
use Rattle.entry_step.specs.History.{visits_at, stored_of, marks_of, with_stored, history_of}
use Rattle.entry_step.specs.Due.{due_at}
use Rattle.trigger_state.specs.Problems.{open_of, absorbed_all, grown}
use Rattle.entry_step.specs.Records.{evaluated, phase, triggers_at, failures_at, replay}
use Rattle.trigger_state.specs.declared.problems.Open.{Open}

-- the key of a cell: that of an item, of a trigger, or of the first Tick
pub data Key : Type 0 where
  ItemKey : ℕ → Key
  TriggerKey : ℕ → Key
  TickKey : Key

-- an item's values, the latest first, what its steps remember, and the moment of the last entry whose foot holds the
-- item
pub record ItemCell : Type 0 where
  pub history : List Stored
  pub marks : List StepMemory
  pub seen : ℕ

-- what a cell holds: of a trigger its open problems in the order of making, and the moment of the first Tick
abbrev pub CellOf : Key → Type 0
CellOf (ItemKey item) = ItemCell
CellOf (TriggerKey id) = List Open
CellOf TickKey = Option ℕ

-- the cells: each key has one
abbrev pub Cells : Type 0
Cells = (k : Key) → CellOf k

-- the open problems of the trigger with an id
abbrev pub opens_in : Cells → ℕ → List Open
opens_in c id = c (TriggerKey id)

-- what the steps of the items remember
abbrev pub memory_in : Cells → ℕ → ℕ → StepMemory
memory_in c i k = memory_at (c (ItemKey i)).marks k

-- The foot of an entry, as a test of keys: what it may read or change. Of a value it is the foot of its item, with the
-- triggers that its marks stand for; of other entries everything.
unfoldable pub touches : Conf → Entry → Key → Bool
touches conf (Config now text) k = true
touches conf (Tick now) k = true
touches conf (Value now item time value) (ItemKey i) = (i == item) || has_id ((feet_of conf).items item) i
touches conf (Value now item time value) (TriggerKey id) =
    has_id ((feet_of conf).triggers item) id || list_any (λ rule. is_reached conf rule id) ((feet_of conf).marks item)
touches conf (Value now item time value) TickKey = false

-- the cell of an item behind an entry, where the steps of the items remember this
unfoldable pub item_after : Conf → (ℕ → ℕ → StepMemory) → ℕ → Entry → ℕ → ItemCell → ItemCell
item_after conf memory number entry i cell = record {
  history = with_stored (stored_of conf memory number entry i) cell.history;
  marks = marks_after (visit_at (visits_at conf memory number entry) i) cell.marks;
  seen = if touches conf entry (ItemKey i) then moment_of entry else cell.seen;
}

-- the histories behind an entry
abbrev pub histories_after : Conf → Cells → ℕ → Entry → ℕ → List Stored
histories_after conf c number entry i = (item_after conf (memory_in c) number entry i (c (ItemKey i))).history

-- what an entry makes over cells before any step is due: its failures, and then the records of the triggers that it
-- evaluates
unfoldable pub judged_at : Stage → Cells → ℕ → Entry → List Rec
judged_at stage c number entry =
    failures_at stage.conf (memory_in c) number entry
    ++ phase stage (evaluated stage (occasion_of (c TickKey) number entry) (histories_after stage.conf c number entry))
    (opens_in c) (triggers_at stage.conf (memory_in c) number entry)

-- the records that an entry makes over cells: with those, at a Tick, the steps that are due for what is open then
unfoldable pub records_at : Stage → Cells → ℕ → Entry → List Rec
records_at stage c number entry =
    judged_at stage c number entry ++ due_at stage entry (grown stage (opens_in c) (judged_at stage c number entry))

-- the records that an entry makes over cells, with its own number
abbrev pub records : Stage → Cells → Numbered → List Rec
records stage c e = records_at stage c e.number e.entry

-- the cells behind an entry
unfoldable pub after : Stage → Cells → Numbered → Cells
after stage c e (ItemKey i) = item_after stage.conf (memory_in c) e.number e.entry i (c (ItemKey i))
after stage c e (TriggerKey id) = absorbed_all stage id (c (TriggerKey id)) (records stage c e)
after stage c e TickKey = tick_with (c TickKey) e.entry

-- the moment of the last entry of a log whose foot holds the item, or that of the start
abbrev pub seen_of : Start → List Numbered → ℕ → ℕ
seen_of start [] i = start.moment
seen_of start (e ∷ log) i =
    if touches start.stage.conf e.entry (ItemKey i) then moment_of e.entry else seen_of start log i

-- what the cells hold, found by searching a log and its records
unfoldable pub look : Start → List Numbered → List Rec → Cells
look start log rs (ItemKey i) =
    record { history = history_of start log i; marks = marks_of start log i; seen = seen_of start log i }
look start log rs (TriggerKey id) = open_of start.stage rs id
look start log rs TickKey = first_tick start log

-- cells stand for a log: they are what the search finds in it and in its records
unfoldable pub AreCellsOf : Start → Cells → List Numbered → Type 0
AreCellsOf start c log = c ≡ look start log (start.records ++ replay start log)
