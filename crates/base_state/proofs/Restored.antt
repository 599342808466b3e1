-- What is restored from a base holds the start that the base is.
use Rattle.std.proofs.Common.{◌≡◌, ◌≢◌, ◌≤◌, ◌<◌, ◌+◌, ◌==◌, ℕ, zero, suc, Bool, true, false, Option, Some, None, IfSome, List, [], ◌∷◌, length, map, replicate, option_map, refl, sym, ◌∙◌, ap, ap₂, subst, eqb-true, eq-eqb, arith, set}
use Rattle.std.specs.Option.{unwrap_or, option_map_or}
use Rattle.std.proofs.lemmas.List.{length-map}
use Rattle.zbx_types.specs.Ids.{at_id, ids_from}
use Rattle.zbx_types.specs.declared.base.Base.{Base}
use Rattle.zbx_types.specs.declared.base.BaseItem.{BaseItem}
use Rattle.zbx_types.specs.declared.conf.Conf.{Conf}
use Rattle.zbx_types.specs.declared.entries.Stored.{Stored}
use Rattle.zbx_types.specs.declared.items.Item.{Item}
use Rattle.zbx_types.proofs.RowLemmas.{at_zero}
use Rattle.prep_steps.specs.declared.memory.StepMemory.{StepMemory}
use Rattle.value_cache.specs.Cells.{CellView, trim}
use Rattle.value_cache.specs.Keeps.{keep_of, keeps_of}
use Rattle.preprocess.specs.Cells.{AreNew, empty, no_marks}
use Rattle.preprocess.specs.Chains.{listed}
use Rattle.preprocess.specs.Draft.{Kept, kept_of}
use Rattle.preprocess.specs.Rows.{with_row}
use Rattle.preprocess.specs.declared.cells.Cells.{Cells as ItemCells}
use Rattle.preprocess.proofs.Logs.{at_map}
use Rattle.preprocess.proofs.Rows.{row_same, row_other, row_there, row_within, with_suc}
use Rattle.trigger_state.specs.Stages.{Stage}
use Rattle.trigger_state.specs.declared.problems.Open.{Open}
use Rattle.base_laws.specs.Bases.{read_step, read_history, read_marks, start_records, base_stage, told_start}
use Rattle.base_laws.specs.FitsBase.{FitsBase}
use Rattle.base_laws.specs.Restoring.{AreHoused}
use Rattle.base_laws.proofs.Restored.{restored_holds}
use Rattle.entry_step.specs.Changes.{Absorbed}
use Rattle.preprocess.specs.Draft.{roomless}
use Rattle.entry_step.specs.Represents.{CellsView, Holds}
use Rattle.entry_step.proofs.Phases.{none_same}
use Rattle.base_state.specs.Restoring.{PutsItem, HaveOrdered, PutsAt, AreRestored}
use Rattle.base_state.proofs.Histories.{at_ids, length_ids}

-- ---- the items

pub are_ordered : (conf : Conf) (base : Base) → FitsBase conf base → HaveOrdered conf.items base.items
are_ordered conf base fits id item kept there at = (fits.items id item kept there at).ordered

rule_of : (conf : Conf) (id : ℕ) (cell : CellView) (o : Option Item) → Some (kept_of cell) ≡ option_map empty (option_map (λ (x : Item). keep_of conf id) o) → cell.keep ≡ keep_of conf id
rule_of conf id cell None e = absurd (cc)
rule_of conf id cell (Some item) e = ap (λ (o : Option Kept). option_map_or (λ (k : Kept). k.keep) o (keep_of conf id)) e

pub new_restored : (conf : Conf) (base : Base) (items : ItemCells) → AreNew conf items → AreRestored conf base 0 items
new_restored conf base items new = record {
  size = sym (length-map items.cells.items kept_of) ∙ ap length new.cells ∙ length-map (keeps_of conf) empty ∙ length-map (ids_from 1 conf.items) (keep_of conf) ∙ length_ids 1 conf.items;
  rules = λ id. rules id (at_id items.cells.items id) (sym (at_map kept_of items.cells.items id) ∙ ap (λ rows. at_id rows id) new.cells ∙ at_map empty (keeps_of conf) id ∙ ap (option_map empty) (at_ids (keep_of conf) conf.items id));
  values = λ id m. (let z : id ≡ 0 = omega arith in subst (λ o. IfSome o (λ (cell : CellView). cell.values ≡ read_history (at_id conf.items id) (at_id base.items id))) (sym (ap (at_id items.cells.items) z ∙ at_zero items.cells.items)) tt);
  memories = ap length new.memories ∙ length-map conf.items no_marks;
  marks = λ id m. (let z : id ≡ 0 = omega arith in ap (λ o. unwrap_or o []) (ap (at_id items.memories.items) z ∙ at_zero items.memories.items) ∙ sym (ap read_marks (ap (at_id base.items) z ∙ at_zero base.items)));
}
  where
    rules : (id : ℕ) (o : Option CellView) → option_map kept_of o ≡ option_map empty (option_map (λ (x : Item). keep_of conf id) (at_id conf.items id)) → IfSome o (λ cell. cell.keep ≡ keep_of conf id)
    rules id None e = tt
    rules id (Some cell) e = rule_of conf id cell (at_id conf.items id) e

long_row : {A : Type 0} (rows : List A) (id : ℕ) (row : A) → length (with_row rows (suc id) row) ≡ length rows
long_row rows id row = ap length (with_suc rows id row) ∙ set_long rows id row
  where
    set_long : {A : Type 0} (xs : List A) (k : ℕ) (x : A) → length (set xs k x) ≡ length xs
    set_long [] k x = refl
    set_long (y ∷ ys) zero x = refl
    set_long (y ∷ ys) (suc k) x = ap suc (set_long ys k x)

-- one item more
module _ (conf : Conf) (base : Base) (fits : FitsBase conf base) (k : ℕ) (l : k < length base.items) (before after : ItemCells) (r : AreRestored conf base k before) (puts : PutsAt conf base.now base.items (k + 1) before after) where
  item : (x : Item) × (at_id conf.items (k + 1) ≡ Some x)
  item = let same = fits.rows in row_there conf.items (k + 1) (omega arith) (omega (arith, same, l))

  kept : (x : BaseItem) × (at_id base.items (k + 1) ≡ Some x)
  kept = row_there base.items (k + 1) (omega arith) (omega (arith, l))

  row : (x : List StepMemory) × (at_id before.memories.items (k + 1) ≡ Some x)
  row = let same = fits.rows in let size = r.memories in row_there before.memories.items (k + 1) (omega arith) (omega (arith, same, size, l))

  put : PutsItem (k + 1) (keep_of conf (k + 1)) (trim (keep_of conf (k + 1)) base.now (read_history (Some item.0) (Some kept.0))) (map read_step kept.0.steps) before after
  put = puts item.0 kept.0 item.1 kept.1

  own_values : put.cell.values ≡ read_history (at_id conf.items (k + 1)) (at_id base.items (k + 1))
  own_values = put.kept ∙ (fits.items (k + 1) item.0 kept.0 item.1 kept.1).trimmed ∙ sym (ap₂ read_history item.1 kept.1)

  own_marks : listed after.memories.items (k + 1) ≡ read_marks (at_id base.items (k + 1))
  own_marks =
      ap (λ rows. listed rows (k + 1)) put.memories
      ∙ ap (λ o. unwrap_or o []) (row_same before.memories.items (k + 1) (map read_step kept.0.steps) ∙ ap (option_map (λ _. map read_step kept.0.steps)) row.1)
      ∙ sym (ap read_marks kept.1)

  if_put : (P : CellView → Type 0) (o : Option CellView) → P put.cell → IfSome (option_map (λ _. put.cell) o) P
  if_put P None p = tt
  if_put P (Some cell) p = p

  cells_own : (P : CellView → Type 0) → P put.cell → IfSome (at_id after.cells.items (k + 1)) P
  cells_own P p =
      subst (λ o. IfSome o P) (sym (ap (λ rows. at_id rows (k + 1)) put.cells ∙ row_same before.cells.items (k + 1) put.cell)) (if_put P (at_id before.cells.items (k + 1)) p)

  cells_other : (id : ℕ) → k + 1 ≢ id → at_id after.cells.items id ≡ at_id before.cells.items id
  cells_other id ne = ap (λ rows. at_id rows id) put.cells ∙ row_other before.cells.items (k + 1) id put.cell ne

  marks_other : (id : ℕ) → k + 1 ≢ id → listed after.memories.items id ≡ listed before.memories.items id
  marks_other id ne = ap (λ rows. listed rows id) put.memories ∙ ap (λ o. unwrap_or o []) (row_other before.memories.items (k + 1) id (map read_step kept.0.steps) ne)

  apart : (id : ℕ) → (k + 1 == id) ≡ false → k + 1 ≢ id
  apart id q e = let t : (k + 1 == id) ≡ true = eq-eqb (k + 1) id e in cc

  pub one_restored : AreRestored conf base (k + 1) after
  one_restored = record {
    size = ap length put.cells ∙ size before.cells.items put.cell ∙ r.size;
    rules = λ id. rules id (k + 1 == id) refl;
    values = λ id m. values id m (k + 1 == id) refl;
    memories = ap length put.memories ∙ size before.memories.items (map read_step kept.0.steps) ∙ r.memories;
    marks = λ id m. marks id m (k + 1 == id) refl;
  }
    where
      size : {A : Type 0} (rows : List A) (x : A) → length (with_row rows (k + 1) x) ≡ length rows
      size rows x = let next : k + 1 ≡ suc k = omega arith in ap (λ n. length (with_row rows n x)) next ∙ long_row rows k x

      rules : (id : ℕ) (b : Bool) → (k + 1 == id) ≡ b → IfSome (at_id after.cells.items id) (λ cell. cell.keep ≡ keep_of conf id)
      rules id true q =
          subst (λ n. IfSome (at_id after.cells.items n) (λ (cell : CellView). cell.keep ≡ keep_of conf n)) (eqb-true (k + 1) id q)
          (cells_own (λ (cell : CellView). cell.keep ≡ keep_of conf (k + 1)) put.rule)
      rules id false q = subst (λ o. IfSome o (λ (cell : CellView). cell.keep ≡ keep_of conf id)) (sym (cells_other id (apart id q))) (r.rules id)

      values : (id : ℕ) → id ≤ k + 1 → (b : Bool) → (k + 1 == id) ≡ b → IfSome (at_id after.cells.items id) (λ cell. cell.values ≡ read_history (at_id conf.items id) (at_id base.items id))
      values id m true q =
          subst (λ n. IfSome (at_id after.cells.items n) (λ (cell : CellView). cell.values ≡ read_history (at_id conf.items n) (at_id base.items n))) (eqb-true (k + 1) id q)
          (cells_own (λ (cell : CellView). cell.values ≡ read_history (at_id conf.items (k + 1)) (at_id base.items (k + 1))) own_values)
      values id m false q =
          let ne = apart id q in
          subst (λ o. IfSome o (λ (cell : CellView). cell.values ≡ read_history (at_id conf.items id) (at_id base.items id))) (sym (cells_other id ne)) (r.values id (omega (arith, m, ne)))

      marks : (id : ℕ) → id ≤ k + 1 → (b : Bool) → (k + 1 == id) ≡ b → listed after.memories.items id ≡ read_marks (at_id base.items id)
      marks id m true q = subst (λ n. listed after.memories.items n ≡ read_marks (at_id base.items n)) (eqb-true (k + 1) id q) own_marks
      marks id m false q = let ne = apart id q in marks_other id ne ∙ r.marks id (omega (arith, m, ne))

-- ---- both

module _ (conf : Conf) (base : Base) (fits : FitsBase conf base) (items : ItemCells) (r : AreRestored conf base (length base.items) items) where
  abbrev history : ℕ → List Stored
  history id = read_history (at_id conf.items id) (at_id base.items id)

  abbrev IsKept : ℕ → CellView → Type 0
  IsKept id cell = (cell.keep ≡ keep_of conf id) × (cell.values ≡ history id)

  cells_kept : (id : ℕ) → IfSome (at_id items.cells.items id) (IsKept id)
  cells_kept id = go (at_id items.cells.items id) refl (r.rules id)
    where
      go : (o : Option CellView) → at_id items.cells.items id ≡ o → IfSome o (λ cell. cell.keep ≡ keep_of conf id) → IfSome o (IsKept id)
      go None q rule = tt
      go (Some cell) q rule =
          let within = row_within items.cells.items id cell q in
          let size = r.size in
          let rows = fits.rows in
          let upto : id ≤ length base.items = omega (arith, within.1, size, rows) in
          (rule, subst (λ o. IfSome o (λ (c : CellView). c.values ≡ history id)) q (r.values id upto))

  marks_kept : (id : ℕ) → listed items.memories.items id ≡ read_marks (at_id base.items id)
  marks_kept id = go (at_id base.items id) refl
    where
      go : (o : Option BaseItem) → at_id base.items id ≡ o → listed items.memories.items id ≡ read_marks (at_id base.items id)
      go None q = ap (λ o. unwrap_or o []) (none_same base.items items.memories.items id (fits.rows ∙ sym r.memories) q) ∙ sym (ap read_marks q)
      go (Some kept) q = let within = row_within base.items id kept q in r.marks id within.1

  kept_at : (id : ℕ) (held : List CellView) → held ≡ map roomless items.cells.items → IfSome (at_id held id) (IsKept id)
  kept_at id held is =
      subst (λ o. IfSome o (IsKept id)) (sym (ap (λ cells. at_id cells id) is ∙ at_map roomless items.cells.items id)) (go (at_id items.cells.items id) (cells_kept id))
    where
      go : (o : Option CellView) → IfSome o (IsKept id) → IfSome (option_map roomless o) (IsKept id)
      go None h = tt
      go (Some cell) h = h

-- the cells hold the start that the base is by itself
pub restored : (conf : Conf) (stage : Stage) (base : Base) (items : ItemCells) (rows : List (List Open)) (held : CellsView) → FitsBase conf base → stage ≡ base_stage conf base → AreRestored conf base (length base.items) items
    → (AreHoused stage (replicate (length stage.conf.triggers) []) base.problems → Absorbed stage (replicate (length stage.conf.triggers) []) (start_records base) rows) → held.items ≡ map roomless items.cells.items
    → held.memories ≡ items.memories.items → held.problems ≡ rows → held.tick ≡ base.first_tick → Holds (told_start conf base) held []
restored conf stage base items rows held fits known r absorbed items_are memories_are rows_are tick_is =
    let law = restored_holds conf base fits in
    let taken : Absorbed (base_stage conf base) (replicate (length conf.triggers) []) (start_records base) rows =
    subst (λ (s : Stage). AreHoused s (replicate (length s.conf.triggers) []) base.problems → Absorbed s (replicate (length s.conf.triggers) []) (start_records base) rows) known absorbed law.0 in
    law.1 held (record {
      items = ap length items_are ∙ length-map items.cells.items roomless ∙ r.size;
      cells = λ id. kept_at conf base fits items r id held.items items_are;
      memories = ap length memories_are ∙ r.memories;
      marks = λ id. ap (λ xs. listed xs id) memories_are ∙ marks_kept conf base fits items r id;
      problems = subst (Absorbed (base_stage conf base) (replicate (length conf.triggers) []) (start_records base)) (sym rows_are) taken;
      tick = tick_is;
    })
