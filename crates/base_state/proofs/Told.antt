-- The base of what a run keeps is that of the log that it stands for.
use Rattle.std.proofs.Common.{◌≡◌, ◌+◌, ℕ, suc, List, [], ◌∷◌, length, map, slice_get, Some, refl, sym, ◌∙◌, ap, ap₂, subst, append-nil, le_refl, arith}
use Rattle.std.specs.Prelude.{flat_map}
use mathlib.Core.Path.{fun_ext}
use Rattle.zbx_types.specs.Ids.{at_id, ids_from}
use Rattle.zbx_types.specs.Records.{event_of}
use Rattle.zbx_types.specs.declared.base.Base.{Base}
use Rattle.zbx_types.specs.declared.base.BaseItem.{BaseItem}
use Rattle.zbx_types.specs.declared.base.BaseProblem.{BaseProblem}
use Rattle.zbx_types.proofs.RowLemmas.{at_suc}
use Rattle.prep_steps.specs.declared.memory.StepMemory.{StepMemory}
use Rattle.value_cache.specs.Cells.{CellView, trim}
use Rattle.value_cache.specs.Histories.{oldest_first}
use Rattle.preprocess.specs.Chains.{listed}
use Rattle.trigger_state.specs.Problems.{open_of}
use Rattle.trigger_state.specs.Stages.{Stage}
use Rattle.trigger_state.specs.declared.problems.Open.{Open}
use Rattle.base_laws.specs.Bases.{told_value, told_step, told_problem, told_item, told_problems, beside_with, base_at}
use Rattle.base_state.specs.Telling.{cell_item, cell_items, row_problems, IsBaseOf, WholeBases}
use Rattle.base_state.specs.declared.place.Place.{Place}
use Rattle.conf_index.specs.Order.{order}
use Rattle.entry_laws.specs.InForce.{left_by}
use Rattle.entry_laws.proofs.InForce.{holds_behind_all}
use Rattle.entry_step.specs.Cells.{Cells, ItemKey, TriggerKey, look, AreCellsOf}
use Rattle.entry_step.specs.Due.{by_making}
use Rattle.entry_step.specs.History.{marks_of}
use Rattle.preprocess.specs.Draft.{roomless}
use Rattle.entry_step.specs.Kept.{Keeps}
use Rattle.entry_step.specs.Order.{by_event}
use Rattle.entry_step.specs.Represents.{CellsView, problems_at, Holds}
use Rattle.entry_step.specs.Start.{Start}
use Rattle.entry_step.specs.Whole.{point, whole_replay}
use Rattle.entry_step.proofs.Members.{flat_maps}
use Rattle.entry_step.proofs.Sorting.{by_event_map}

-- ---- the problems

pub told_in_order : (stage : Stage) (rows : List (List Open)) (ids : List ℕ) (told made : List BaseProblem) → ids ≡ order stage.conf → told ≡ flat_map (λ id. map told_problem (problems_at rows id)) ids
    → made ≡ by_event stage (λ (p : BaseProblem). event_of p.problem) told → made ≡ row_problems stage rows
unfolding by_making
told_in_order stage rows ids told made all is sorted =
    sorted
    ∙ ap (by_event stage (λ (p : BaseProblem). event_of p.problem)) (is ∙ ap (flat_map (λ id. map told_problem (problems_at rows id))) all ∙ flat_maps told_problem (problems_at rows) (order stage.conf))
    ∙ by_event_map stage told_problem (λ (p : BaseProblem). event_of p.problem) (flat_map (problems_at rows) (order stage.conf))

-- ---- the items

-- cells whose items are told as a log tells them
items_are : {A : Type 0} (now : ℕ) (memories : List (List StepMemory)) (told : ℕ → BaseItem) (id : ℕ) (cells : List CellView) (items : List A) → length cells ≡ length items
    → ((k : ℕ) (cell : CellView) → slice_get cells k ≡ Some cell → cell_item now cell (listed memories (k + id)) ≡ told (k + id)) → cell_items now memories id cells ≡ map told (ids_from id items)
items_are now memories told id [] [] l h = refl
items_are now memories told id [] (y ∷ ys) l h = absurd (omega (arith, l))
items_are now memories told id (x ∷ xs) [] l h = absurd (omega (arith, l))
items_are now memories told id (x ∷ xs) (y ∷ ys) l h =
    let first : 0 + id ≡ id = omega arith in
    ap₂ (λ i is. i ∷ is) (subst (λ n. cell_item now x (listed memories n) ≡ told n) first (h 0 x refl))
    (items_are now memories told (id + 1) xs ys (omega (arith, l)) (λ k cell q. (let next : suc k + id ≡ k + (id + 1) = omega arith in subst (λ n. cell_item now cell (listed memories n) ≡ told n) next (h (suc k) cell q))))

-- what is held of a start
module _ (start : Start) (held : CellsView) (holds : Holds start held []) where
  stands : holds.cells ≡ look start [] start.records
  unfolding AreCellsOf
  stands = holds.stand ∙ ap (look start []) (append-nil start.records)

  marks : (id : ℕ) → listed held.memories id ≡ start.marks id
  unfolding look marks_of
  marks id = holds.represented.marks id ∙ ap (λ (c : Cells). (c (ItemKey id)).marks) stands

  kept : (id : ℕ) → Keeps start.stage.conf id start.moment (start.histories id) (at_id held.items id)
  unfolding look
  kept id =
      subst (λ (c : Cells). Keeps start.stage.conf id (c (ItemKey id)).seen (c (ItemKey id)).history (at_id held.items id)) stands (holds.represented.histories id)

  opens : problems_at held.problems ≡ open_of start.stage start.records
  unfolding look
  opens = fun_ext (λ id. holds.represented.problems id ∙ ap (λ (c : Cells). c (TriggerKey id)) stands)

  item_is : (id : ℕ) (cell : CellView) → at_id held.items id ≡ Some cell → cell_item start.moment cell (listed held.memories id) ≡ told_item start id
  item_is id cell at =
      let keeps : Keeps start.stage.conf id start.moment (start.histories id) (Some cell) = subst (Keeps start.stage.conf id start.moment (start.histories id)) at (kept id) in
      ap₂ (λ values steps. record { values = map told_value (oldest_first values); steps = map told_step steps })
      (keeps.1.kept start.moment (le_refl start.moment) ∙ ap (λ keep. trim keep start.moment (start.histories id)) keeps.0)
      (marks id)

  items_told : cell_items start.moment held.memories 1 held.items ≡ map (told_item start) (ids_from 1 start.stage.conf.items)
  items_told =
      items_are start.moment held.memories (told_item start) 1 held.items start.stage.conf.items holds.represented.items
      (λ k cell q. (let next : suc k ≡ k + 1 = omega arith in item_is (k + 1) cell (sym (ap (at_id held.items) next) ∙ at_suc held.items k ∙ q)))

-- cells with room are told as those without
roomless_items : (now : ℕ) (memories : List (List StepMemory)) (id : ℕ) (cells : List CellView) → cell_items now memories id cells ≡ cell_items now memories id (map roomless cells)
roomless_items now memories id [] = refl
roomless_items now memories id (cell ∷ cells) = ap (λ is. cell_item now cell (listed memories id) ∷ is) (roomless_items now memories (id + 1) cells)

-- ---- both

pub base_is : (stage : Stage) (held : CellsView) (at : Place) (cells : List CellView) (memories : List (List StepMemory)) (items : List BaseItem) (problems : List BaseProblem) (text : List ℕ) (base : Base)
    → map roomless cells ≡ held.items → memories ≡ held.memories → items ≡ cell_items at.now memories 1 cells → problems ≡ row_problems stage held.problems → text ≡ stage.conf.text
    → base ≡ (record { number = at.number; now = at.now; first_tick = at.first_tick; last_tick = at.last_tick; lines = at.lines; text = text; items = items; problems = problems }) → IsBaseOf stage held at base
unfolding IsBaseOf base_at
base_is stage held at cells memories items problems text base cells_are memories_are items_told_by problems_are text_is made beside start same holds ends =
    let told : items ≡ map (told_item start) (ids_from 1 start.stage.conf.items) =
    items_told_by ∙ ap₂ (λ now ms. cell_items now ms 1 cells) ends.now memories_are ∙ roomless_items start.moment held.memories 1 cells
    ∙ ap (cell_items start.moment held.memories 1) cells_are ∙ items_told start held holds in
    let opened : problems ≡ told_problems start =
    problems_are ∙ ap (λ (s : Stage). map told_problem (by_making s (problems_at held.problems))) (sym same) ∙ ap (λ all. map told_problem (by_making start.stage all)) (opens start held holds) in
    made ∙ (λ i. record {
      number = ends.number i;
      now = ends.now i;
      first_tick = ends.first i;
      last_tick = ends.last i;
      lines = ends.lines i;
      text = (text_is ∙ ends.text) i;
      items = told i;
      problems = opened i;
    })

pub whole_bases : WholeBases
unfolding IsBaseOf
whole_bases stage held at base is flat beside start log ground fits holds same ends =
    is (beside_with beside log (whole_replay flat start log)) (left_by (point flat start log)) same (holds_behind_all flat start log held ground fits holds) ends
