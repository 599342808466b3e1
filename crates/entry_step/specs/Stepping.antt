-- Entries that are taken one after another.
use Rattle.std.specs.Prelude.{◌≡◌, ℕ, ◌+◌, List, ◌++◌}
use Rattle.trigger_state.specs.Stages.{Stage}
use Rattle.zbx_types.specs.declared.entries.Numbered.{Numbered}
use Rattle.zbx_types.specs.declared.entries.Rec.{Rec}
use Rattle.entry_step.specs.Cells.{Cells}
use Rattle.entry_step.specs.Laws.{cells_done, records_done}
use Rattle.entry_step.specs.Represents.{CellsView, Represents}
use Rattle.entry_step.specs.Parts.{AllCome, evaluations}

-- what entries make and leave, whatever cells it is that the kept ones represent
abbrev pub AllMade : Stage → CellsView → List Numbered → List (List Rec) → CellsView → Type 0
AllMade stage held es made next =
    (c : Cells) → Represents stage held c → AllCome stage c es
    → (made ≡ records_done stage c es) × Represents stage next (cells_done stage c es)

-- how many triggers they evaluate
abbrev pub AllCounted : Stage → CellsView → List Numbered → ℕ → ℕ → Type 0
AllCounted stage held es before now =
    (c : Cells) → Represents stage held c → AllCome stage c es → now ≡ before + evaluations stage c es

-- some of these entries, from the first one on, are taken
pub record SomeTaken (stage : Stage) (c : Cells) (es : List Numbered) (next : CellsView) : Type 0 where
  pub taken : List Numbered
  pub rest : List Numbered
  pub all : taken ++ rest ≡ es
  pub represented : Represents stage next (cells_done stage c taken)

-- whatever cells the kept ones represent, some of the entries that come to them are taken
abbrev pub AreSteppedTo : Stage → CellsView → List Numbered → CellsView → Type 0
AreSteppedTo stage held es next = (c : Cells) → Represents stage held c → AllCome stage c es → SomeTaken stage c es next
