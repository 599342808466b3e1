-- Parts of cells: copies of those in the feet of some entries, which are worked on apart from the others.
use Rattle.std.specs.Prelude.{◌≡◌, ℕ, ◌+◌, ◌==◌, List, [], ◌∷◌, length, Option, Some, None, option_map, IfSome, All, if◌then◌else◌}
use Rattle.std.specs.Option.{unwrap_or}
use Rattle.zbx_types.specs.Ids.{at_id}
use Rattle.zbx_types.specs.declared.conf.Conf.{Conf}
use Rattle.trigger_state.specs.Stages.{Stage, OwnsEvents}
use Rattle.zbx_types.specs.declared.entries.Numbered.{Numbered}
use Rattle.zbx_types.specs.declared.entries.Rec.{Rec}
use Rattle.prep_steps.specs.declared.memory.StepMemory.{StepMemory}
use Rattle.value_cache.specs.Cells.{CellView, IsIn}
use Rattle.value_cache.specs.Tokens.{CacheId}
use Rattle.trigger_state.specs.declared.problems.Open.{Open}
use Rattle.entry_step.specs.Log.{IsFitting}
use Rattle.preprocess.specs.Draft.{roomless}
use Rattle.entry_step.specs.Records.{triggers_at}
use Rattle.entry_step.specs.Cells.{Cells, ItemKey, TriggerKey, memory_in, after}
use Rattle.entry_step.specs.Laws.{any_touches, cells_done, records_done}
use Rattle.entry_step.specs.Represents.{CellsView, Represents, ComesAfter}
use Rattle.entry_step.specs.declared.parts.ItemRow.{ItemRow}
use Rattle.entry_step.specs.declared.parts.TriggerRow.{TriggerRow}

-- what contracts see of a part: the copies of items' cells and of triggers' open problems, each with its id, the moment of
-- the first Tick, and the cache in which the values of the cells stand
pub record PartView : Type 0 where
  pub items : List ItemRow
  pub triggers : List TriggerRow
  pub tick : Option ℕ
  pub cache : CacheId

-- the tokens of these copies of cells are of this vector
abbrev pub AreHeldIn : CacheId → List ItemRow → Type 0
AreHeldIn cache rows = All (λ row. IsIn cache row.cell) rows

-- the first of some rows with an id
abbrev pub row_with : {A : Type 0} → (A → ℕ) → List A → ℕ → Option A
row_with id_of [] id = None
row_with id_of (row ∷ rows) id = if id_of row == id then Some row else row_with id_of rows id

-- a part's row of the item with an id
abbrev pub item_row : PartView → ℕ → Option ItemRow
item_row part id = row_with (λ row. row.id) part.items id

-- the copy of an item's cell, whatever room it has
abbrev pub cell_in : PartView → ℕ → Option CellView
cell_in part id = option_map (λ row. roomless row.cell) (item_row part id)

-- the copy of what an item's steps remember
abbrev pub marks_in : PartView → ℕ → Option (List StepMemory)
marks_in part id = option_map (λ row. row.marks) (item_row part id)

-- the copy of a trigger's open problems
abbrev pub problems_in : PartView → ℕ → Option (List Open)
problems_in part id = option_map (λ row. row.problems) (row_with (λ row. row.id) part.triggers id)

-- a part has exactly the cells that are in the feet of these entries, as they are here, and the first Tick
pub record IsPartOf (conf : Conf) (es : List Numbered) (held : CellsView) (part : PartView) : Type 0 where
  pub cells : (id : ℕ) → cell_in part id ≡ (if any_touches conf es (ItemKey id) then at_id held.items id else None)
  pub marks : (id : ℕ) → marks_in part id ≡ (if any_touches conf es (ItemKey id) then at_id held.memories id else None)
  pub problems : (id : ℕ) → problems_in part id ≡ (if any_touches conf es (TriggerKey id) then at_id held.problems id
      else None)
  pub tick : part.tick ≡ held.tick

-- each copy is what is here
pub record IsSame (held : CellsView) (part : PartView) : Type 0 where
  pub cells : (id : ℕ) → IfSome (cell_in part id) (λ cell. at_id held.items id ≡ Some cell)
  pub marks : (id : ℕ) → IfSome (marks_in part id) (λ marks. at_id held.memories id ≡ Some marks)
  pub problems : (id : ℕ) → IfSome (problems_in part id) (λ os. at_id held.problems id ≡ Some os)
  pub tick : part.tick ≡ held.tick

-- each copy has come into its place, if there is one, and the others are as they were
pub record IsReplaced (held : CellsView) (part : PartView) (next : CellsView) : Type 0 where
  pub items : (id : ℕ) → at_id next.items id ≡ option_map (unwrap_or (cell_in part id)) (at_id held.items id)
  pub memories : (id : ℕ) → at_id next.memories id ≡ option_map (unwrap_or (marks_in part id)) (at_id held.memories id)
  pub problems : (id : ℕ) → at_id next.problems id ≡ option_map (unwrap_or (problems_in part id))
      (at_id held.problems id)
  pub tick : next.tick ≡ part.tick

-- each of these entries, as those before it are worked out, has events of its own, comes after what the cells have seen, and
-- fits
abbrev pub AllCome : Stage → Cells → List Numbered → Type 0
AllCome stage c [] = Unit {0}
AllCome stage c (e ∷ es) =
    OwnsEvents stage e.number × ComesAfter stage.conf c e × IsFitting stage.conf e.entry × AllCome stage (after stage c e) es

-- how many triggers they evaluate
abbrev pub evaluations : Stage → Cells → List Numbered → ℕ
evaluations stage c [] = 0
evaluations stage c (e ∷ es) =
    length (triggers_at stage.conf (memory_in c) e.number e.entry) + evaluations stage (after stage c e) es

-- a part is of some cells that represent others to which the entries come
pub record IsWorkable (stage : Stage) (es : List Numbered) (part : PartView) : Type 0 where
  pub held : CellsView
  pub cells : Cells
  pub of : IsPartOf stage.conf es held part
  pub represented : Represents stage held cells
  pub come : AllCome stage cells es

-- What the entries make of a part, whatever cells it is of: the records of each, one after another, and copies that
-- leave what the entries leave, once they come into their places.
unfoldable pub WorksOut : Stage → List Numbered → PartView → PartView → List (List Rec) → Type 0
WorksOut stage es part done made =
    (held : CellsView) (c : Cells) → IsPartOf stage.conf es held part → Represents stage held c → AllCome stage c es
    → (made ≡ records_done stage c es) × ((next : CellsView) → IsReplaced held done next
    → Represents stage next (cells_done stage c es))

-- so many triggers were evaluated for that
unfoldable pub IsCounted : Stage → List Numbered → PartView → ℕ → ℕ → Type 0
IsCounted stage es part before now =
    (held : CellsView) (c : Cells) → IsPartOf stage.conf es held part → Represents stage held c → AllCome stage c es
    → now ≡ before + evaluations stage c es
