-- What is kept of the items behind a configuration that follows another one.
use Rattle.std.specs.Prelude.{◌≡◌, ◌≤◌, ℕ, List, length}
use Rattle.zbx_types.specs.Ids.{at_id}
use Rattle.zbx_types.specs.declared.conf.Conf.{Conf}
use Rattle.zbx_types.specs.declared.entries.Stored.{Stored}
use Rattle.prep_steps.specs.declared.memory.StepMemory.{StepMemory}
use Rattle.preprocess.specs.Carry.{AreCarried, carried_history, carried_marks}
use Rattle.preprocess.specs.Chains.{listed}
use Rattle.preprocess.specs.declared.cells.Cells.{Cells as ItemCells}
use Rattle.entry_step.specs.Kept.{Keeps}

-- what is kept represents these histories, each from its moment on, and these memories of steps
pub record KeepsAll (conf : Conf) (seen : ℕ → ℕ) (histories : ℕ → List Stored) (marks : ℕ → List StepMemory)
    (held : ItemCells) : Type 0 where
  pub items : length held.cells.items ≡ length conf.items
  pub memories : length held.memories.items ≡ length conf.items
  pub histories_are : (id : ℕ) → Keeps conf id (seen id) (histories id) (at_id held.cells.items id)
  pub marks_are : (id : ℕ) → listed held.memories.items id ≡ marks id

-- what represents histories and memories represents from the moment on, at which a configuration follows, what goes on
-- of them, whatever the new configuration asks for
abbrev pub KeepsOn : Type 0
KeepsOn =
    (old new : Conf) (now : ℕ) (seen : ℕ → ℕ) (histories : ℕ → List Stored) (marks : ℕ → List StepMemory)
    (before after : ItemCells) → AreCarried old new now before after → ((id : ℕ) → seen id ≤ now)
    → KeepsAll old seen histories marks before
    → KeepsAll new (λ id. now) (carried_history old new now histories) (carried_marks old new marks) after
