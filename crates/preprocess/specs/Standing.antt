-- What cells stand for behind a configuration that follows another one.
use Rattle.std.specs.Prelude.{◌≡◌, ◌≤◌, ℕ, List, [], Some, None}
use Rattle.zbx_types.specs.Ids.{at_id}
use Rattle.zbx_types.specs.declared.conf.Conf.{Conf}
use Rattle.zbx_types.specs.declared.entries.Stored.{Stored}
use Rattle.prep_steps.specs.declared.memory.StepMemory.{StepMemory}
use Rattle.value_cache.specs.Cells.{CellView, IsCellOf}
use Rattle.value_cache.specs.Keeps.{keep_of}
use Rattle.preprocess.specs.Carry.{AreCarried, carried_history, carried_marks}
use Rattle.preprocess.specs.Chains.{listed}
use Rattle.preprocess.specs.declared.cells.Cells.{Cells}

-- the cells of a configuration stand for these histories, each from its moment on; an item without a cell has none
pub record StandFor (conf : Conf) (cells : List CellView) (seen : ℕ → ℕ) (histories : ℕ → List Stored) : Type 0 where
  pub there : (id : ℕ) (cell : CellView) → at_id cells id ≡ Some cell → (cell.keep ≡ keep_of conf id)
      × IsCellOf cell (seen id) (histories id)
  pub absent : (id : ℕ) → at_id cells id ≡ None → histories id ≡ []

-- cells that stand for histories stand from the moment on, at which a configuration follows, for what goes on of them
abbrev pub CarriedStand : Type 0
CarriedStand =
    (old new : Conf) (now : ℕ) (before after : Cells) (seen : ℕ → ℕ) (histories : ℕ → List Stored)
    → AreCarried old new now before after → StandFor old before.cells.items seen histories → ((id : ℕ) → seen id ≤ now)
    → StandFor new after.cells.items (λ id. now) (carried_history old new now histories)

-- and the steps remember what goes on of what they did
abbrev pub CarriedRemember : Type 0
CarriedRemember =
    (old new : Conf) (now : ℕ) (before after : Cells) (marks : ℕ → List StepMemory) → AreCarried old new now before after
    → ((id : ℕ) → listed before.memories.items id ≡ marks id)
    → (id : ℕ) → listed after.memories.items id ≡ carried_marks old new marks id
