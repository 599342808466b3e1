-- What is restored of a base, part by part.
use Rattle.std.specs.Prelude.{◌≡◌, ◌≤◌, ℕ, List, length, map, IfSome, Some}
use Rattle.zbx_types.specs.Ids.{at_id}
use Rattle.zbx_types.specs.declared.base.Base.{Base}
use Rattle.zbx_types.specs.declared.base.BaseItem.{BaseItem}
use Rattle.zbx_types.specs.declared.conf.Conf.{Conf}
use Rattle.zbx_types.specs.declared.items.Item.{Item}
use Rattle.zbx_types.specs.declared.entries.Stored.{Stored}
use Rattle.prep_steps.specs.declared.memory.StepMemory.{StepMemory}
use Rattle.preprocess.specs.Chains.{listed}
use Rattle.preprocess.specs.Rows.{with_row}
use Rattle.preprocess.specs.declared.cells.Cells.{Cells}
use Rattle.value_cache.specs.Cells.{CellView, trim}
use Rattle.value_cache.specs.Histories.{IsOrdered}
use Rattle.value_cache.specs.Keeps.{keep_of}
use Rattle.value_cache.specs.declared.keeping.Keep.{Keep}
use Rattle.base_laws.specs.Bases.{read_step, read_history, read_marks}

-- the item with an id has a cell with these values and this rule, and its steps remember this; nothing else changes
pub record PutsItem (id : ℕ) (keep : Keep) (values : List Stored) (marks : List StepMemory) (before after : Cells) : Type 0 where
  pub cell : CellView
  pub rule : cell.keep ≡ keep
  pub kept : cell.values ≡ values
  pub cells : after.cells.items ≡ with_row before.cells.items id cell
  pub memories : after.memories.items ≡ with_row before.memories.items id marks

-- the values of each item stand in the order of time and then of number
abbrev pub HaveOrdered : List Item → List BaseItem → Type 0
HaveOrdered items rows = (id : ℕ) (item : Item) (kept : BaseItem) → at_id items id ≡ Some item → at_id rows id ≡ Some kept
    → IsOrdered (read_history (Some item) (Some kept))

-- what a base keeps of the item with an id is put into its cell, as far as it is to be kept at a moment
abbrev pub PutsAt : Conf → ℕ → List BaseItem → ℕ → Cells → Cells → Type 0
PutsAt conf now rows id before after =
    (item : Item) (kept : BaseItem) → at_id conf.items id ≡ Some item → at_id rows id ≡ Some kept
    → PutsItem id (keep_of conf id) (trim (keep_of conf id) now (read_history (Some item) (Some kept)))
    (map read_step kept.steps) before after

-- Each item has a cell by its own rule, and those with ids up to this one have what a base tells of them: their values, and
-- what their steps remember.
pub record AreRestored (conf : Conf) (base : Base) (upto : ℕ) (items : Cells) : Type 0 where
  pub size : length items.cells.items ≡ length conf.items
  pub rules : (id : ℕ) → IfSome (at_id items.cells.items id) (λ cell. cell.keep ≡ keep_of conf id)
  pub values : (id : ℕ) → id ≤ upto → IfSome (at_id items.cells.items id)
      (λ cell. cell.values ≡ read_history (at_id conf.items id) (at_id base.items id))
  pub memories : length items.memories.items ≡ length conf.items
  pub marks : (id : ℕ) → id ≤ upto → listed items.memories.items id ≡ read_marks (at_id base.items id)
