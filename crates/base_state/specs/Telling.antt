-- What a run keeps, as a base tells it.
use Rattle.std.specs.Prelude.{◌≡◌, ◌+◌, ℕ, List, [], ◌∷◌, map}
use Rattle.zbx_types.specs.declared.base.Base.{Base}
use Rattle.zbx_types.specs.declared.base.BaseItem.{BaseItem}
use Rattle.zbx_types.specs.declared.base.BaseProblem.{BaseProblem}
use Rattle.zbx_types.specs.declared.conf.Conf.{Conf}
use Rattle.zbx_types.specs.declared.entries.Numbered.{Numbered}
use Rattle.prep_steps.specs.declared.memory.StepMemory.{StepMemory}
use Rattle.preprocess.specs.Chains.{listed}
use Rattle.value_cache.specs.Cells.{CellView, trim}
use Rattle.value_cache.specs.Histories.{oldest_first}
use Rattle.trigger_state.specs.Stages.{Stage}
use Rattle.trigger_state.specs.declared.problems.Open.{Open}
use Rattle.base_laws.specs.Bases.{Beside, told_value, told_step, told_problem, beside_with, base_at, whole_base}
use Rattle.base_state.specs.declared.place.Place.{Place}
use Rattle.entry_laws.specs.InForce.{IsGround, FitsLog, left_by}
use Rattle.entry_step.specs.Due.{by_making}
use Rattle.entry_step.specs.InForce.{HoldsAt}
use Rattle.entry_step.specs.Represents.{CellsView, problems_at, Holds}
use Rattle.entry_step.specs.Start.{Start}
use Rattle.entry_step.specs.Whole.{point, whole_replay}

-- what a cell keeps at a moment, and what the steps of its item remember
abbrev pub cell_item : ℕ → CellView → List StepMemory → BaseItem
cell_item now cell marks = record {
  values = map told_value (oldest_first (trim cell.keep now cell.values));
  steps = map told_step marks;
}

-- the same of cells of which the first is that of the item with this id
abbrev pub cell_items : ℕ → List (List StepMemory) → ℕ → List CellView → List BaseItem
cell_items now memories id [] = []
cell_items now memories id (cell ∷ cells) =
    cell_item now cell (listed memories id) ∷ cell_items now memories (id + 1) cells

-- the open problems of all triggers, in the order of making
abbrev pub row_problems : Stage → List (List Open) → List BaseProblem
row_problems stage rows = map told_problem (by_making stage (problems_at rows))

-- what a start leaves, and what is told beside it, ends at a place, with this document in force
pub record EndsAt (beside : Beside) (start : Start) (document : List ℕ) (at : Place) : Type 0 where
  pub number : at.number ≡ start.number
  pub now : at.now ≡ start.moment
  pub first : at.first_tick ≡ start.tick
  pub last : at.last_tick ≡ beside.tick
  pub lines : at.lines ≡ beside.lines
  pub text : document ≡ beside.text

-- a base is that of each start that the cells hold and that ends at a place
unfoldable pub IsBaseOf : Stage → CellsView → Place → Base → Type 0
IsBaseOf stage held at base =
    (beside : Beside) (start : Start) → start.stage ≡ stage → Holds start held []
    → EndsAt beside start stage.conf.text at → base ≡ base_at beside start

-- and so that of each whole log that the cells stand for, which fits the start that it stands on
abbrev pub IsWholeBase : Stage → CellsView → Place → Base → Type 0
IsWholeBase stage held at base =
    (flat : List ℕ → Conf) (beside : Beside) (start : Start) (log : List Numbered) → IsGround start → FitsLog flat start log
    → HoldsAt (point flat start log) held → (point flat start log).start.stage ≡ stage
    → EndsAt (beside_with beside log (whole_replay flat start log)) (left_by (point flat start log)) stage.conf.text at
    → base ≡ whole_base flat beside start log

-- A base that is that of each start is that of each whole log.
abbrev pub WholeBases : Type 0
WholeBases = (stage : Stage) (held : CellsView) (at : Place) (base : Base) → IsBaseOf stage held at base
    → IsWholeBase stage held at base
