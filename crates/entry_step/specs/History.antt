-- What entries store of an item, and what its steps remember.
use Rattle.std.specs.Prelude.{ℕ, List, [], ◌∷◌, Option, Some, None}
use Rattle.zbx_types.specs.declared.conf.Conf.{Conf}
use Rattle.zbx_types.specs.declared.entries.Entry.{Entry}
use Rattle.zbx_types.specs.declared.entries.Entry.TheVariants.{Config, Value, Tick}
use Rattle.zbx_types.specs.declared.entries.Numbered.{Numbered}
use Rattle.zbx_types.specs.declared.entries.Stored.{Stored}
use Rattle.prep_steps.specs.declared.memory.StepMemory.{StepMemory}
use Rattle.value_cache.specs.Histories.{placed}
use Rattle.preprocess.specs.Ways.{memory_at}
use Rattle.preprocess.specs.Visits.{visits_of}
use Rattle.preprocess.specs.Draft.{visit_at, stored_at, marks_after}
use Rattle.entry_step.specs.Start.{Start}
use Rattle.preprocess.specs.declared.visit.Visit.{Visit}

-- the visits of an entry, where the steps of the items remember this: a value comes to its item, and to those below it
abbrev pub visits_at : Conf → (ℕ → ℕ → StepMemory) → ℕ → Entry → List Visit
visits_at conf memory number (Config now text) = []
visits_at conf memory number (Tick now) = []
visits_at conf memory number (Value now item time value) =
    visits_of conf memory (record { item = item; time = time; number = number; value = value })

-- what an entry stores of an item
unfoldable pub stored_of : Conf → (ℕ → ℕ → StepMemory) → ℕ → Entry → ℕ → Option Stored
stored_of conf memory number entry id = stored_at (visits_at conf memory number entry) id

-- what the steps of an item remember behind a log: where the newest entry comes to the item, what it leaves, and else
-- what they remembered before it
unfoldable pub marks_of : Start → List Numbered → ℕ → List StepMemory
marks_of start [] id = start.marks id
marks_of start (e ∷ log) id =
    marks_after (visit_at (visits_at start.stage.conf (λ i k. memory_at (marks_of start log i) k) e.number e.entry) id)
    (marks_of start log id)

-- the same of each step
abbrev pub memory_of : Start → List Numbered → ℕ → ℕ → StepMemory
memory_of start log i k = memory_at (marks_of start log i) k

-- with one more value, by its time and its number
abbrev pub with_stored : Option Stored → List Stored → List Stored
with_stored None history = history
with_stored (Some s) history = placed s history

-- the history of an item: all values that were stored, the latest first, by time and then by number
abbrev pub history_of : Start → List Numbered → ℕ → List Stored
history_of start [] id = start.histories id
history_of start (e ∷ log) id =
    with_stored (stored_of start.stage.conf (memory_of start log) e.number e.entry id) (history_of start log id)
