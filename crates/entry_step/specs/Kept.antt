-- What is kept of the items.
use Rattle.std.specs.Prelude.{◌≡◌, ◌≤◌, ℕ, List, [], map, Option, Some, None, option_map}
use Rattle.zbx_types.specs.Ids.{at_id}
use Rattle.zbx_types.specs.declared.conf.Conf.{Conf}
use Rattle.zbx_types.specs.declared.triggers.Trigger.{Trigger}
use Rattle.zbx_types.specs.declared.entries.Stored.{Stored}
use Rattle.prep_steps.specs.declared.memory.StepMemory.{StepMemory}
use Rattle.value_cache.specs.Cells.{CellView, IsCellOf}
use Rattle.value_cache.specs.Keeps.{keep_of}
use Rattle.preprocess.specs.Draft.{kept_of, visit_at, stored_at, kept_after, marks_after}
use Rattle.preprocess.specs.Cached.{DraftView}
use Rattle.preprocess.specs.declared.visit.Visit.{Visit}
use Rattle.entry_step.specs.Each.{In}
use Rattle.entry_step.specs.History.{with_stored}

-- what is kept of the item with an id stands for its history from a moment on; where nothing is kept, there is none
abbrev pub Keeps : Conf → ℕ → ℕ → List Stored → Option CellView → Type 0
Keeps conf id seen history None = history ≡ []
Keeps conf id seen history (Some cell) = (cell.keep ≡ keep_of conf id) × IsCellOf cell seen history

-- the values that are still to come, as a look-up of items: those of a draft, if there is one
abbrev pub still_to_come : Option DraftView → ℕ → Option Stored
still_to_come None id = None
still_to_come (Some draft) id = stored_at draft.visits id

-- a cell of the item with an id, with what is still to come, shows this history at a moment
pub record SeesIn (conf : Conf) (id : ℕ) (cell : CellView) (stored : Option Stored) (now : ℕ)
    (history : List Stored) : Type 0 where
  pub seen : ℕ
  pub before : List Stored
  pub by : seen ≤ now
  pub keeps : Keeps conf id seen before (Some cell)
  pub is : history ≡ with_stored stored before

-- so does what is kept of the item
abbrev pub Sees : Conf → ℕ → Option CellView → Option Stored → ℕ → List Stored → Type 0
Sees conf id None stored now history = history ≡ []
Sees conf id (Some cell) stored now history = SeesIn conf id cell stored now history

-- a trigger has a call over an item
abbrev pub IsCalled : Conf → ℕ → ℕ → Type 0
IsCalled conf id item = (trigger : Trigger) × (at_id conf.triggers id ≡ Some trigger) × In item trigger.call_items

-- what is kept shows the trigger with an id these histories
abbrev pub SeesFor : Conf → List CellView → (ℕ → Option Stored) → ℕ → (ℕ → List Stored) → ℕ → Type 0
SeesFor conf cells stored now items id =
    (item : ℕ) → IsCalled conf id item → Sees conf item (at_id cells item) (stored item) now (items item)

-- what visits store came into the cells at a moment, and what they leave into the memories
pub record CameIn (now : ℕ) (visits : List Visit) (before after : List CellView)
    (memories next : List (List StepMemory)) : Type 0 where
  pub cells : (id : ℕ) → at_id (map kept_of after) id ≡ option_map (kept_after now (visit_at visits id))
      (at_id (map kept_of before) id)
  pub marks : (id : ℕ) → at_id next id ≡ option_map (marks_after (visit_at visits id)) (at_id memories id)
