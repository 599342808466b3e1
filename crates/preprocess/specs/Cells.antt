-- What a run keeps of the items, and what an entry's value makes of it.
use Rattle.std.specs.Prelude.{◌≡◌, ℕ, List, [], map, option_map}
use Rattle.zbx_types.specs.Ids.{at_id}
use Rattle.zbx_types.specs.declared.conf.Conf.{Conf}
use Rattle.zbx_types.specs.declared.items.Item.{Item}
use Rattle.prep_steps.specs.Outcomes.{unmarked}
use Rattle.prep_steps.specs.declared.memory.StepMemory.{StepMemory}
use Rattle.value_cache.specs.Keeps.{keeps_of}
use Rattle.value_cache.specs.declared.keeping.Keep.{Keep}
use Rattle.preprocess.specs.Visits.{Arrival, memory_in, visits_of}
use Rattle.preprocess.specs.Draft.{Kept, kept_of, roomless, visit_at, kept_after, marks_after, failures_of}
use Rattle.preprocess.specs.declared.cells.Cells.{Cells}
use Rattle.preprocess.specs.declared.draft.Prepared.{Prepared}
use Rattle.preprocess.specs.declared.visit.Visit.{Visit}

-- what the cells keep, in the order of ids
abbrev pub kept_in : Cells → List Kept
kept_in cells = map kept_of cells.cells.items

-- both keep the same, whatever room they have
pub record AreSame (one other : Cells) : Type 0 where
  pub cells : map roomless one.cells.items ≡ map roomless other.cells.items
  pub memories : one.memories.items ≡ other.memories.items

-- nothing is kept yet
abbrev pub empty : Keep → Kept
empty keep = record { keep = keep; values = [] }

-- no step of an item has a mark yet
abbrev pub no_marks : Item → List StepMemory
no_marks item = map (λ step. unmarked) item.steps

-- the cells before the first entry: no values, and no step with a mark
pub record AreNew (conf : Conf) (made : Cells) : Type 0 where
  pub cells : kept_in made ≡ map empty (keeps_of conf)
  pub memories : made.memories.items ≡ map no_marks conf.items

-- what some visits make of the cells at a moment: each item that is visited keeps what it stores, and its steps what
-- they remember then; nothing else changes
pub record Becomes (now : ℕ) (visits : List Visit) (before after : Cells) : Type 0 where
  pub cells : (id : ℕ)
      → at_id (kept_in after) id ≡ option_map (kept_after now (visit_at visits id)) (at_id (kept_in before) id)
  pub memories : (id : ℕ)
      → at_id after.memories.items id ≡ option_map (marks_after (visit_at visits id)) (at_id before.memories.items id)

-- what an entry's value is to leave, over the memories of the cells
abbrev pub visits_in : Conf → Cells → Arrival → List Visit
visits_in conf cells arrival = visits_of conf (memory_in cells.memories.items) arrival

-- that was prepared, with the Failure records
pub record IsPrepared (conf : Conf) (cells : Cells) (arrival : Arrival) (prepared : Prepared) : Type 0 where
  pub visits : prepared.draft.visits ≡ visits_in conf cells arrival
  pub failures : prepared.failures ≡ failures_of conf arrival.number (visits_in conf cells arrival)
