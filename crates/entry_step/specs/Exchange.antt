-- Copies of cells, and copies that are exchanged for cells.
use Rattle.std.specs.Prelude.{◌≡◌, ℕ, List, [], ◌∷◌, Option, Some, None, option_map}
use Rattle.std.specs.List.{cons_option}
use Rattle.std.specs.Option.{unwrap_or}
use Rattle.zbx_types.specs.Ids.{at_id}
use Rattle.prep_steps.specs.declared.memory.StepMemory.{StepMemory}
use Rattle.value_cache.specs.Cells.{CellView}
use Rattle.trigger_state.specs.declared.problems.Open.{Open}
use Rattle.preprocess.specs.Rows.{with_row}
use Rattle.preprocess.specs.Draft.{roomless}
use Rattle.entry_step.specs.Represents.{CellsView}
use Rattle.entry_step.specs.Parts.{PartView, cell_in, marks_in, problems_in}
use Rattle.entry_step.specs.declared.parts.ItemRow.{ItemRow}
use Rattle.entry_step.specs.declared.parts.TriggerRow.{TriggerRow}

-- a row as what it has alone, whatever room its cell has
abbrev pub roomless_row : ItemRow → ItemRow
roomless_row row = record { id = row.id; cell = roomless row.cell; marks = row.marks }

-- the row of the item with an id, if there is such a cell and such a memory
abbrev pub item_copy : ℕ → Option CellView → Option (List StepMemory) → Option ItemRow
item_copy id None marks = None
item_copy id (Some cell) None = None
item_copy id (Some cell) (Some marks) = Some (record { id = id; cell = cell; marks = marks })

-- the row of the trigger with an id, if there are such open problems
abbrev pub trigger_copy : ℕ → Option (List Open) → Option TriggerRow
trigger_copy id None = None
trigger_copy id (Some problems) = Some (record { id = id; problems = problems })

-- the rows of the items with these ids
abbrev pub item_copies : List CellView → List (List StepMemory) → List ℕ → List ItemRow
item_copies cells memories [] = []
item_copies cells memories (id ∷ ids) =
    cons_option (item_copy id (at_id cells id) (at_id memories id)) (item_copies cells memories ids)

-- the rows of the triggers with these ids
abbrev pub trigger_copies : List (List Open) → List ℕ → List TriggerRow
trigger_copies problems [] = []
trigger_copies problems (id ∷ ids) = cons_option (trigger_copy id (at_id problems id)) (trigger_copies problems ids)

-- what rows have, each in the place of its id, one row after another
abbrev pub put_all : {R V : Type 0} → (R → ℕ) → (R → V) → List V → List R → List V
put_all id_of value_of values [] = values
put_all id_of value_of values (row ∷ rows) =
    put_all id_of value_of (with_row values (id_of row) (value_of row)) rows

-- an item's row with what stands in the place of its id, if something does
abbrev pub item_taken : List CellView → List (List StepMemory) → ItemRow → ItemRow
item_taken cells memories row = record {
  id = row.id;
  cell = unwrap_or (at_id cells row.id) row.cell;
  marks = unwrap_or (at_id memories row.id) row.marks;
}

-- a trigger's row with what stands in the place of its id, if something does
abbrev pub trigger_taken : List (List Open) → TriggerRow → TriggerRow
trigger_taken problems row = record { id = row.id; problems = unwrap_or (at_id problems row.id) row.problems }

-- items' rows with what stands there, where each is put there before the next one is taken
abbrev pub items_taken : List CellView → List (List StepMemory) → List ItemRow → List ItemRow
items_taken cells memories [] = []
items_taken cells memories (row ∷ rows) =
    item_taken cells memories row
    ∷ items_taken (with_row cells row.id row.cell) (with_row memories row.id row.marks) rows

-- triggers' rows with what stands there, where each is put there before the next one is taken
abbrev pub triggers_taken : List (List Open) → List TriggerRow → List TriggerRow
triggers_taken problems [] = []
triggers_taken problems (row ∷ rows) =
    trigger_taken problems row ∷ triggers_taken (with_row problems row.id row.problems) rows

-- the copies of a part are those of another one
pub record IsCopy (made part : PartView) : Type 0 where
  pub cells : (id : ℕ) → cell_in made id ≡ cell_in part id
  pub marks : (id : ℕ) → marks_in made id ≡ marks_in part id
  pub problems : (id : ℕ) → problems_in made id ≡ problems_in part id
  pub tick : made.tick ≡ part.tick

-- each copy became what stood in its place, if something did
pub record IsTaken (held : CellsView) (part next : PartView) : Type 0 where
  pub cells : (id : ℕ) → cell_in next id ≡ option_map (unwrap_or (at_id held.items id)) (cell_in part id)
  pub marks : (id : ℕ) → marks_in next id ≡ option_map (unwrap_or (at_id held.memories id)) (marks_in part id)
  pub problems : (id : ℕ) → problems_in next id ≡ option_map (unwrap_or (at_id held.problems id)) (problems_in part id)
  pub tick : next.tick ≡ held.tick

-- the cell of an item's row is what is kept, whatever room it has
abbrev pub IsSameCell : List CellView → ItemRow → Type 0
IsSameCell cells row = option_map roomless (at_id cells row.id) ≡ Some (roomless row.cell)

-- all of an item's row is what is kept
abbrev pub IsSameItem : List CellView → List (List StepMemory) → ItemRow → Type 0
IsSameItem cells memories row = IsSameCell cells row × (at_id memories row.id ≡ Some row.marks)

-- the open problems of a trigger's row are what is kept
abbrev pub IsSameTrigger : List (List Open) → TriggerRow → Type 0
IsSameTrigger problems row = at_id problems row.id ≡ Some row.problems
