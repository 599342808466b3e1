-- Parts of cells: copied, compared, exchanged, and worked on.
use Rattle.std.proofs.Common.{◌≡◌, ◌↔◌, ℕ, suc, ◌+◌, ◌≤◌, Bool, true, false, cond, ◌||◌, ◌⊎◌, inl, inr, List, [], ◌∷◌, ◌++◌, map, Option, Some, None, option_map, is_some, length, filter, reverse, append-nil, append_assoc, refl, sym, ◌∙◌, ap, subst}
use Rattle.std.specs.Prelude.{IfSome}
use Rattle.std.specs.Option.{unwrap_or}
use Rattle.std.proofs.lemmas.List.{reverse-append}
use Rattle.zbx_types.specs.Ids.{at_id, ids_from}
use Rattle.zbx_types.specs.declared.conf.Conf.{Conf}
use Rattle.trigger_state.specs.Stages.{Stage, OwnsEvents}
use Rattle.zbx_types.specs.declared.entries.Numbered.{Numbered}
use Rattle.zbx_types.specs.declared.entries.Rec.{Rec}
use Rattle.prep_steps.specs.declared.memory.StepMemory.{StepMemory}
use Rattle.value_cache.specs.Cells.{CellView}
use Rattle.value_cache.specs.Histories.{IsOrdered}
use Rattle.trigger_state.specs.declared.problems.Open.{Open}
use Rattle.footprint.specs.Rows.{rises, those}
use Rattle.preprocess.specs.Rows.{with_row}
use Rattle.preprocess.proofs.Logs.{at_map}
use Rattle.entry_step.specs.Each.{Each, In}
use Rattle.value_cache.specs.Tokens.{CacheId}
use Rattle.preprocess.specs.Draft.{roomless}
use Rattle.entry_step.specs.Kept.{Keeps}
use Rattle.entry_step.specs.Cells.{Key, ItemKey, TriggerKey, TickKey, ItemCell, Cells, memory_in, touches, look, AreCellsOf, after}
use Rattle.entry_step.specs.Laws.{any_touches, cells_done, records_done, put_over}
use Rattle.zbx_types.specs.Entries.{moment_of}
use Rattle.entry_step.specs.Log.{Suits, log_of}
use Rattle.entry_step.specs.Records.{triggers_at}
use Rattle.entry_step.specs.Represents.{CellsView, problems_at, AllAtHome, AllTagged, IsTidy, Represents, Holds}
use Rattle.entry_step.specs.Parts.{PartView, row_with, cell_in, marks_in, problems_in, IsPartOf, IsSame, IsReplaced, AllCome, evaluations, IsWorkable, WorksOut, IsCounted}
use Rattle.entry_step.specs.Exchange.{roomless_row, item_copies, trigger_copies, put_all, item_taken, trigger_taken, items_taken, triggers_taken, IsCopy, IsTaken, IsSameCell, IsSameItem, IsSameTrigger}
use Rattle.entry_step.specs.Stepping.{AllMade, AllCounted, SomeTaken, AreSteppedTo}
use Rattle.entry_step.specs.declared.parts.ItemRow.{ItemRow}
use Rattle.entry_step.specs.declared.parts.TriggerRow.{TriggerRow}
use Rattle.entry_step.proofs.Members.{each_from, any_intro}
use Rattle.entry_step.proofs.Coming.{same_length, size_roomless}
use Rattle.entry_step.proofs.Phases.{none_same}
use Rattle.entry_step.proofs.Represented.{stays_tidy, comes_after, one_entry}
use Rattle.entry_step.proofs.Orders.{visits_agree, triggers_by, step_agrees, batch_off, batch_on_a_copy}
use Rattle.entry_step.proofs.Exchanging.{item_id, item_cell, item_marks, trigger_id, trigger_problems, id_found, each_found, own_found, at_put_all, item_at_taken, trigger_at_taken, item_ids_taken, trigger_ids_taken, plain_found, plain_ids, items_rise, item_cells_are, item_marks_are, triggers_rise, trigger_problems_are}
use Rattle.entry_step.specs.Start.{fresh, Start}

-- ---- copies

plain_cell : (o : Option ItemRow) → option_map (λ (r : ItemRow). roomless r.cell) o ≡ option_map item_cell (option_map roomless_row o)
plain_cell None = refl
plain_cell (Some r) = refl

plain_marks : (o : Option ItemRow) → option_map item_marks o ≡ option_map item_marks (option_map roomless_row o)
plain_marks None = refl
plain_marks (Some r) = refl

module _ (rows made : List ItemRow) (triggers again : List TriggerRow) (tick : Option ℕ) (own other : CacheId) (e : map roomless_row made ≡ map roomless_row rows) (f : again ≡ triggers) where
  found_same : (id : ℕ) → option_map roomless_row (row_with item_id made id) ≡ option_map roomless_row (row_with item_id rows id)
  found_same id = sym (plain_found made id) ∙ ap (λ rs. row_with item_id rs id) e ∙ plain_found rows id

  pub copy_is : IsCopy (record { items = made; triggers = again; tick = tick; cache = own }) (record { items = rows; triggers = triggers; tick = tick; cache = other })
  copy_is = record {
    cells = λ id. plain_cell (row_with item_id made id) ∙ ap (option_map item_cell) (found_same id) ∙ sym (plain_cell (row_with item_id rows id));
    marks = λ id. plain_marks (row_with item_id made id) ∙ ap (option_map item_marks) (found_same id) ∙ sym (plain_marks (row_with item_id rows id));
    problems = λ id. ap (λ rs. option_map trigger_problems (row_with trigger_id rs id)) f;
    tick = refl;
  }

pub copy_rises : (rows made : List ItemRow) → map roomless_row made ≡ map roomless_row rows → rises (map item_id rows) ≡ true → rises (map item_id made) ≡ true
copy_rises rows made e h = ap rises (sym (plain_ids made) ∙ ap (map item_id) e ∙ plain_ids rows) ∙ h

ids_plain : (cells : List CellView) (from : ℕ) → ids_from from (map roomless cells) ≡ ids_from from cells
ids_plain [] from = refl
ids_plain (cell ∷ cells) from = ap (λ ids. from ∷ ids) (ids_plain cells (from + 1))

module _ (conf : Conf) (es : List Numbered) (cells : List CellView) (memories : List (List StepMemory)) (problems : List (List Open)) (rows : List ItemRow) (triggers : List TriggerRow)
    (e : map roomless_row rows ≡ item_copies (map roomless cells) memories (those cells (λ id. any_touches conf es (ItemKey id)))) (f : triggers ≡ trigger_copies problems (those problems (λ id. any_touches conf es (TriggerKey id)))) where
  plain_rows : map roomless_row rows ≡ item_copies (map roomless cells) memories (those (map roomless cells) (λ id. any_touches conf es (ItemKey id)))
  plain_rows = e ∙ ap (λ ids. item_copies (map roomless cells) memories (filter (λ id. any_touches conf es (ItemKey id)) ids)) (sym (ids_plain cells 1))

  pub part_rises : (rises (map item_id rows) ≡ true) × (rises (map trigger_id triggers) ≡ true)
  part_rises = (
    items_rise (map roomless cells) memories (λ id. any_touches conf es (ItemKey id)) rows plain_rows,
    triggers_rise problems (λ id. any_touches conf es (TriggerKey id)) triggers f,
  )

  pub part_is : (tick : Option ℕ) (own other : CacheId) → length cells ≡ length memories → IsPartOf conf es (record { items = map roomless cells; memories = memories; problems = problems; tick = tick; cache = own }) (record { items = rows; triggers = triggers; tick = tick; cache = other })
  part_is tick own other size = record {
    cells = λ id. item_cells_are (map roomless cells) memories (λ id. any_touches conf es (ItemKey id)) rows plain_rows (size_roomless cells ∙ size) id;
    marks = λ id. item_marks_are (map roomless cells) memories (λ id. any_touches conf es (ItemKey id)) rows plain_rows (size_roomless cells ∙ size) id;
    problems = λ id. trigger_problems_are problems (λ id. any_touches conf es (TriggerKey id)) triggers f id;
    tick = refl;
  }

-- ---- the same

module _ (cells : List CellView) (memories : List (List StepMemory)) (problems : List (List Open)) (kept tick : Option ℕ) (own other : CacheId) (rows : List ItemRow) (triggers : List TriggerRow)
    (rise : rises (map item_id rows) ≡ true) (climb : rises (map trigger_id triggers) ≡ true) where
  abbrev kept_here : CellsView
  kept_here = record { items = map roomless cells; memories = memories; problems = problems; tick = kept; cache = own }

  abbrev part_here : PartView
  part_here = record { items = rows; triggers = triggers; tick = tick; cache = other }

  pub same_from : kept ≡ tick → Each (IsSameItem cells memories) rows → Each (IsSameTrigger problems) triggers → IsSame kept_here part_here
  same_from t items others = record {
    cells = λ id. cell id (row_with item_id rows id) refl;
    marks = λ id. mark id (row_with item_id rows id) refl;
    problems = λ id. opened id (row_with trigger_id triggers id) refl;
    tick = sym t;
  }
    where
      cell : (id : ℕ) (o : Option ItemRow) → row_with item_id rows id ≡ o → IfSome (option_map (λ (r : ItemRow). roomless r.cell) o) (λ cell. at_id (map roomless cells) id ≡ Some cell)
      cell id None e = tt
      cell id (Some r) e =
          at_map roomless cells id ∙ ap (λ i. option_map roomless (at_id cells i)) (sym (id_found item_id rows id r e)) ∙ (each_found item_id (IsSameItem cells memories) rows items id r e).0

      mark : (id : ℕ) (o : Option ItemRow) → row_with item_id rows id ≡ o → IfSome (option_map item_marks o) (λ marks. at_id memories id ≡ Some marks)
      mark id None e = tt
      mark id (Some r) e = ap (at_id memories) (sym (id_found item_id rows id r e)) ∙ (each_found item_id (IsSameItem cells memories) rows items id r e).1

      opened : (id : ℕ) (o : Option TriggerRow) → row_with trigger_id triggers id ≡ o → IfSome (option_map trigger_problems o) (λ os. at_id problems id ≡ Some os)
      opened id None e = tt
      opened id (Some r) e = ap (at_id problems) (sym (id_found trigger_id triggers id r e)) ∙ each_found trigger_id (IsSameTrigger problems) triggers others id r e

  module _ (s : IsSame kept_here part_here) where
    pub tick_same : kept ≡ tick
    tick_same = sym s.tick

    pub items_same : Each (IsSameItem cells memories) rows
    items_same = each_from (IsSameItem cells memories) rows (λ r i. (cell r (own_found item_id rows rise r i), mark r (own_found item_id rows rise r i)))
      where
        cell : (r : ItemRow) → row_with item_id rows r.id ≡ Some r → IsSameCell cells r
        cell r e = sym (at_map roomless cells r.id) ∙ subst (λ (o : Option ItemRow). IfSome (option_map (λ (x : ItemRow). roomless x.cell) o) (λ cell. at_id (map roomless cells) r.id ≡ Some cell)) e (s.cells r.id)

        mark : (r : ItemRow) → row_with item_id rows r.id ≡ Some r → at_id memories r.id ≡ Some r.marks
        mark r e = subst (λ (o : Option ItemRow). IfSome (option_map item_marks o) (λ marks. at_id memories r.id ≡ Some marks)) e (s.marks r.id)

    pub triggers_same : Each (IsSameTrigger problems) triggers
    triggers_same = each_from (IsSameTrigger problems) triggers (λ r i. opened r (own_found trigger_id triggers climb r i))
      where
        opened : (r : TriggerRow) → row_with trigger_id triggers r.id ≡ Some r → IsSameTrigger problems r
        opened r e = subst (λ (o : Option TriggerRow). IfSome (option_map trigger_problems o) (λ os. at_id problems r.id ≡ Some os)) e (s.problems r.id)

  module _ (view : CellsView) (copy : PartView) (v : kept_here ≡ view) (w : part_here ≡ copy) where
    viewed : (b : Bool) → (b ≡ true) ↔ IsSame kept_here part_here → (b ≡ true) ↔ IsSame view copy
    viewed b h = subst (λ x. (b ≡ true) ↔ IsSame x copy) v (subst (λ y. (b ≡ true) ↔ IsSame kept_here y) w h)

    pub all_same : (b : Bool) → (b ≡ true) ↔ Each (IsSameTrigger problems) triggers → kept ≡ tick → Each (IsSameItem cells memories) rows → (b ≡ true) ↔ IsSame view copy
    all_same b h t items = viewed b (λ e. same_from t items (h.0 e), λ s. h.1 (triggers_same s))

    pub other_items : (b : Bool) → (b ≡ true) ↔ Each (IsSameItem cells memories) rows → b ≡ false → (b ≡ true) ↔ IsSame view copy
    other_items b h f = viewed b (λ e. absurd (cc), λ s. h.1 (items_same s))

    pub other_tick : (b : Bool) → (b ≡ true) ↔ (kept ≡ tick) → b ≡ false → (b ≡ true) ↔ IsSame view copy
    other_tick b h f = viewed b (λ e. absurd (cc), λ s. h.1 (tick_same s))

-- ---- exchanged

module _ (cells next : List CellView) (memories marks : List (List StepMemory)) (problems opens : List (List Open)) (kept tick : Option ℕ) (own other : CacheId) (rows taken : List ItemRow) (triggers others : List TriggerRow)
    (rise : rises (map item_id rows) ≡ true) (climb : rises (map trigger_id triggers) ≡ true)
    (e : next ≡ put_all item_id item_cell cells rows) (m : marks ≡ put_all item_id item_marks memories rows) (p : opens ≡ put_all trigger_id trigger_problems problems triggers)
    (t : taken ≡ items_taken cells memories rows) (u : others ≡ triggers_taken problems triggers) where
  pub replaced_is : IsReplaced (record { items = map roomless cells; memories = memories; problems = problems; tick = kept; cache = own }) (record { items = rows; triggers = triggers; tick = tick; cache = other }) (record { items = map roomless next; memories = marks; problems = opens; tick = tick; cache = own })
  replaced_is = record {
    items = λ id. at_map roomless next id ∙ ap (λ cs. option_map roomless (at_id cs id)) e ∙ ap (option_map roomless) (at_put_all item_id item_cell rows rise cells id)
        ∙ plain (row_with item_id rows id) (at_id cells id) ∙ ap (option_map (unwrap_or (option_map (λ (r : ItemRow). roomless r.cell) (row_with item_id rows id)))) (sym (at_map roomless cells id));
    memories = λ id. ap (λ ms. at_id ms id) m ∙ at_put_all item_id item_marks rows rise memories id;
    problems = λ id. ap (λ ps. at_id ps id) p ∙ at_put_all trigger_id trigger_problems triggers climb problems id;
    tick = refl;
  }
    where
      plain : (r : Option ItemRow) (o : Option CellView) → option_map roomless (option_map (unwrap_or (option_map item_cell r)) o) ≡ option_map (unwrap_or (option_map (λ (r : ItemRow). roomless r.cell) r)) (option_map roomless o)
      plain None None = refl
      plain None (Some c) = refl
      plain (Some r) None = refl
      plain (Some r) (Some c) = refl

  pub taken_is : IsTaken (record { items = map roomless cells; memories = memories; problems = problems; tick = kept; cache = own }) (record { items = rows; triggers = triggers; tick = tick; cache = other }) (record { items = taken; triggers = others; tick = kept; cache = other })
  taken_is = record {
    cells = λ id. ap (λ rs. option_map (λ (r : ItemRow). roomless r.cell) (row_with item_id rs id)) t ∙ ap (option_map (λ (r : ItemRow). roomless r.cell)) (item_at_taken cells memories rows id) ∙ cell id (row_with item_id rows id) refl;
    marks = λ id. ap (λ rs. option_map item_marks (row_with item_id rs id)) t ∙ ap (option_map item_marks) (item_at_taken cells memories rows id) ∙ mark id (row_with item_id rows id) refl;
    problems = λ id. ap (λ rs. option_map trigger_problems (row_with trigger_id rs id)) u ∙ ap (option_map trigger_problems) (trigger_at_taken problems triggers id) ∙ opened id (row_with trigger_id triggers id) refl;
    tick = refl;
  }
    where
      plain : (o : Option CellView) (c : CellView) → roomless (unwrap_or o c) ≡ unwrap_or (option_map roomless o) (roomless c)
      plain None c = refl
      plain (Some d) c = refl

      cell : (id : ℕ) (o : Option ItemRow) → row_with item_id rows id ≡ o → option_map (λ (r : ItemRow). roomless r.cell) (option_map (item_taken cells memories) o) ≡ option_map (unwrap_or (at_id (map roomless cells) id)) (option_map (λ (r : ItemRow). roomless r.cell) o)
      cell id None e = refl
      cell id (Some r) e =
          ap Some (plain (at_id cells r.id) r.cell ∙ ap (λ i. unwrap_or (option_map roomless (at_id cells i)) (roomless r.cell)) (id_found item_id rows id r e) ∙ ap (λ o. unwrap_or o (roomless r.cell)) (sym (at_map roomless cells id)))

      mark : (id : ℕ) (o : Option ItemRow) → row_with item_id rows id ≡ o → option_map item_marks (option_map (item_taken cells memories) o) ≡ option_map (unwrap_or (at_id memories id)) (option_map item_marks o)
      mark id None e = refl
      mark id (Some r) e = ap (λ i. Some (unwrap_or (at_id memories i) r.marks)) (id_found item_id rows id r e)

      opened : (id : ℕ) (o : Option TriggerRow) → row_with trigger_id triggers id ≡ o → option_map trigger_problems (option_map (trigger_taken problems) o) ≡ option_map (unwrap_or (at_id problems id)) (option_map trigger_problems o)
      opened id None e = refl
      opened id (Some r) e = ap (λ i. Some (unwrap_or (at_id problems i) r.problems)) (id_found trigger_id triggers id r e)

  pub taken_rises : rises (map item_id taken) ≡ true
  taken_rises = ap (λ rs. rises (map item_id rs)) t ∙ ap rises (item_ids_taken cells memories rows) ∙ rise

  pub others_rise : rises (map trigger_id others) ≡ true
  others_rise = ap (λ rs. rises (map trigger_id rs)) u ∙ ap rises (trigger_ids_taken problems triggers) ∙ climb

  -- the same, where what is left goes by other names
  module _ (view : CellsView) (copy : PartView) (v : record { items = map roomless cells; memories = memories; problems = problems; tick = kept; cache = own } ≡ view) (w : record { items = rows; triggers = triggers; tick = tick; cache = other } ≡ copy) where
    pub replaced_by : (now : Option ℕ) → now ≡ tick → IsReplaced view copy (record { items = map roomless next; memories = marks; problems = opens; tick = now; cache = own })
    replaced_by now q =
        subst (λ (x : CellsView). IsReplaced x copy (record { items = map roomless next; memories = marks; problems = opens; tick = now; cache = own })) v
        (subst (λ (y : PartView). IsReplaced (record { items = map roomless cells; memories = memories; problems = problems; tick = kept; cache = own }) y (record { items = map roomless next; memories = marks; problems = opens; tick = now; cache = own })) w
        (subst (λ (t : Option ℕ). IsReplaced (record { items = map roomless cells; memories = memories; problems = problems; tick = kept; cache = own }) (record { items = rows; triggers = triggers; tick = tick; cache = other }) (record { items = map roomless next; memories = marks; problems = opens; tick = t; cache = own })) (sym q) replaced_is))

    pub taken_by : (left : List ItemRow) (rest : List TriggerRow) (now : Option ℕ) → left ≡ taken → rest ≡ others → now ≡ kept → IsTaken view copy (record { items = left; triggers = rest; tick = now; cache = other })
    taken_by left rest now a b q =
        subst (λ (x : CellsView). IsTaken x copy (record { items = left; triggers = rest; tick = now; cache = other })) v
        (subst (λ (y : PartView). IsTaken (record { items = map roomless cells; memories = memories; problems = problems; tick = kept; cache = own }) y (record { items = left; triggers = rest; tick = now; cache = other })) w
        (subst (λ (xs : List ItemRow). IsTaken (record { items = map roomless cells; memories = memories; problems = problems; tick = kept; cache = own }) (record { items = rows; triggers = triggers; tick = tick; cache = other }) (record { items = xs; triggers = rest; tick = now; cache = other })) (sym a)
        (subst (λ (ys : List TriggerRow). IsTaken (record { items = map roomless cells; memories = memories; problems = problems; tick = kept; cache = own }) (record { items = rows; triggers = triggers; tick = tick; cache = other }) (record { items = taken; triggers = ys; tick = now; cache = other })) (sym b)
        (subst (λ (t : Option ℕ). IsTaken (record { items = map roomless cells; memories = memories; problems = problems; tick = kept; cache = own }) (record { items = rows; triggers = triggers; tick = tick; cache = other }) (record { items = taken; triggers = others; tick = t; cache = other })) (sym q) taken_is))))

pub items_taken_size : (cells : List CellView) (memories : List (List StepMemory)) (rows : List ItemRow) → length (items_taken cells memories rows) ≡ length rows
items_taken_size cells memories [] = refl
items_taken_size cells memories (r ∷ rows) = ap suc (items_taken_size (with_row cells r.id r.cell) (with_row memories r.id r.marks) rows)

pub triggers_taken_size : (problems : List (List Open)) (rows : List TriggerRow) → length (triggers_taken problems rows) ≡ length rows
triggers_taken_size problems [] = refl
triggers_taken_size problems (r ∷ rows) = ap suc (triggers_taken_size (with_row problems r.id r.problems) rows)

-- ---- a part is of cells that it is the same as

still_part : {A : Type 0} (b : Bool) (before now : List A) (id : ℕ) (copy : Option A) → length before ≡ length now → copy ≡ cond b (at_id before id) None → IfSome copy (λ x. at_id now id ≡ Some x) → copy ≡ cond b (at_id now id) None
still_part {A} b before now id copy size e same = go b (at_id before id) refl copy e same
  where
    go : (b : Bool) (o : Option A) → at_id before id ≡ o → (copy : Option A) → copy ≡ cond b o None → IfSome copy (λ x. at_id now id ≡ Some x) → copy ≡ cond b (at_id now id) None
    go false o q copy e same = e
    go true None q copy e same = e ∙ sym (none_same before now id size q)
    go true (Some x) q None e same = cc
    go true (Some x) q (Some y) e same = sym same

pub same_part : (conf : Conf) (es : List Numbered) (held0 held : CellsView) (part : PartView) → IsPartOf conf es held0 part → IsSame held part
    → length held0.items ≡ length held.items → length held0.memories ≡ length held.memories → length held0.problems ≡ length held.problems → IsPartOf conf es held part
same_part conf es held0 held part of same items memories problems = record {
  cells = λ id. still_part (any_touches conf es (ItemKey id)) held0.items held.items id (cell_in part id) items (of.cells id) (same.cells id);
  marks = λ id. still_part (any_touches conf es (ItemKey id)) held0.memories held.memories id (marks_in part id) memories (of.marks id) (same.marks id);
  problems = λ id. still_part (any_touches conf es (TriggerKey id)) held0.problems held.problems id (problems_in part id) problems (of.problems id) (same.problems id);
  tick = same.tick;
}

some_same : {A B : Type 0} (xs : List A) (zs : List B) (id : ℕ) → length xs ≡ length zs → is_some (at_id xs id) ≡ is_some (at_id zs id)
some_same {A} {B} xs zs id p = go (at_id xs id) refl (at_id zs id) refl
  where
    go : (o : Option A) → at_id xs id ≡ o → (r : Option B) → at_id zs id ≡ r → is_some o ≡ is_some r
    go None q None w = refl
    go None q (Some z) w = let n = none_same xs zs id p q in cc
    go (Some y) q None w = let n = none_same zs xs id (sym p) w in cc
    go (Some y) q (Some z) w = refl

-- ---- what is kept of two families

module _ (stage : Stage) (test : Key → Bool) (a b x : CellsView) (c d e : Cells) (ra : Represents stage a c) (rb : Represents stage b d)
    (items : (id : ℕ) → at_id x.items id ≡ cond (test (ItemKey id)) (at_id a.items id) (at_id b.items id))
    (memories : (id : ℕ) → at_id x.memories id ≡ cond (test (ItemKey id)) (at_id a.memories id) (at_id b.memories id))
    (problems : (id : ℕ) → at_id x.problems id ≡ cond (test (TriggerKey id)) (at_id a.problems id) (at_id b.problems id))
    (its : (id : ℕ) → e (ItemKey id) ≡ cond (test (ItemKey id)) (c (ItemKey id)) (d (ItemKey id)))
    (opens : (id : ℕ) → e (TriggerKey id) ≡ cond (test (TriggerKey id)) (c (TriggerKey id)) (d (TriggerKey id)))
    (tick : x.tick ≡ e TickKey) where
  there_as : {A B : Type 0} (xs ys : List A) (zs : List B) (id : ℕ) (t : Bool) → length xs ≡ length zs → length ys ≡ length zs → is_some (cond t (at_id xs id) (at_id ys id)) ≡ is_some (at_id zs id)
  there_as xs ys zs id true p q = some_same xs zs id p
  there_as xs ys zs id false p q = some_same ys zs id q

  pub mixed_represents : Represents stage x e
  unfolding problems_at
  mixed_represents = record {
    items = same_length x.items stage.conf.items (λ id. ap is_some (items id) ∙ there_as a.items b.items stage.conf.items id (test (ItemKey id)) ra.items rb.items);
    ordered = λ id. subst (λ o. IfSome o (λ cell. IsOrdered cell.values)) (sym (items id)) (ordered id (test (ItemKey id)));
    memories = same_length x.memories stage.conf.items (λ id. ap is_some (memories id) ∙ there_as a.memories b.memories stage.conf.items id (test (ItemKey id)) ra.memories rb.memories);
    triggers = same_length x.problems stage.conf.triggers (λ id. ap is_some (problems id) ∙ there_as a.problems b.problems stage.conf.triggers id (test (TriggerKey id)) ra.triggers rb.triggers);
    histories = λ id. subst (λ (cell : ItemCell). Keeps stage.conf id cell.seen cell.history (at_id x.items id)) (sym (its id)) (subst (Keeps stage.conf id (own id).seen (own id).history) (sym (items id)) (history id (test (ItemKey id))));
    marks = λ id. ap (λ o. unwrap_or o []) (memories id) ∙ mark id (test (ItemKey id)) ∙ ap (λ (cell : ItemCell). cell.marks) (sym (its id));
    problems = λ id. ap (λ o. unwrap_or o []) (problems id) ∙ opened id (test (TriggerKey id)) ∙ sym (opens id);
    tick = tick;
    tidy = record {
      homes = λ id. subst (AllAtHome stage id) (sym (opens id)) (home id (test (TriggerKey id)));
      tagged = λ id. subst (AllTagged stage.conf id) (sym (opens id)) (tag id (test (TriggerKey id)));
      absent = λ id q. ap (λ (cell : ItemCell). cell.history) (its id) ∙ gone id q (test (ItemKey id));
    };
  }
    where
      own : ℕ → ItemCell
      own id = cond (test (ItemKey id)) (c (ItemKey id)) (d (ItemKey id))

      ordered : (id : ℕ) (t : Bool) → IfSome (cond t (at_id a.items id) (at_id b.items id)) (λ cell. IsOrdered cell.values)
      ordered id true = ra.ordered id
      ordered id false = rb.ordered id

      history : (id : ℕ) (t : Bool) → Keeps stage.conf id (cond t (c (ItemKey id)) (d (ItemKey id))).seen (cond t (c (ItemKey id)) (d (ItemKey id))).history (cond t (at_id a.items id) (at_id b.items id))
      history id true = ra.histories id
      history id false = rb.histories id

      mark : (id : ℕ) (t : Bool) → unwrap_or (cond t (at_id a.memories id) (at_id b.memories id)) [] ≡ (cond t (c (ItemKey id)) (d (ItemKey id))).marks
      mark id true = ra.marks id
      mark id false = rb.marks id

      opened : (id : ℕ) (t : Bool) → unwrap_or (cond t (at_id a.problems id) (at_id b.problems id)) [] ≡ cond t (c (TriggerKey id)) (d (TriggerKey id))
      opened id true = ra.problems id
      opened id false = rb.problems id

      home : (id : ℕ) (t : Bool) → AllAtHome stage id (cond t (c (TriggerKey id)) (d (TriggerKey id)))
      home id true = ra.tidy.homes id
      home id false = rb.tidy.homes id

      tag : (id : ℕ) (t : Bool) → AllTagged stage.conf id (cond t (c (TriggerKey id)) (d (TriggerKey id)))
      tag id true = ra.tidy.tagged id
      tag id false = rb.tidy.tagged id

      gone : (id : ℕ) → at_id stage.conf.items id ≡ None → (t : Bool) → (cond t (c (ItemKey id)) (d (ItemKey id))).history ≡ []
      gone id q true = ra.tidy.absent id q
      gone id q false = rb.tidy.absent id q

-- ---- a part in the place of cells

-- what stands at an id where copies come into other cells, and in the copies then
into : {A : Type 0} (b : Bool) (held other next copy : Option A) → is_some other ≡ is_some held → copy ≡ cond b held None → next ≡ option_map (unwrap_or copy) other → next ≡ cond b held other
into true None None next copy s e n = n
into true None (Some y) next copy s e n = cc
into true (Some x) None next copy s e n = cc
into true (Some x) (Some y) next copy s e n = n ∙ ap (λ o. Some (unwrap_or o y)) e
into false held None next copy s e n = n
into false held (Some y) next copy s e n = n ∙ ap (λ o. Some (unwrap_or o y)) e

back_from : {A : Type 0} (b : Bool) (held other copy back : Option A) → is_some other ≡ is_some held → copy ≡ cond b held None → back ≡ option_map (unwrap_or other) copy → back ≡ cond b other None
back_from true None None copy back s e n = n ∙ ap (option_map (unwrap_or None)) e
back_from true None (Some y) copy back s e n = cc
back_from true (Some x) None copy back s e n = cc
back_from true (Some x) (Some y) copy back s e n = n ∙ ap (option_map (unwrap_or (Some y))) e
back_from false held other copy back s e n = n ∙ ap (option_map (unwrap_or other)) e

any_first : (conf : Conf) (es rest : List Numbered) (k : Key) → any_touches conf (es ++ rest) k ≡ false → any_touches conf es k ≡ false
any_first conf [] rest k f = refl
any_first conf (e ∷ es) rest k f = go (touches conf e.entry k) f (any_first conf es rest k)
  where
    go : (b : Bool) → (b || any_touches conf (es ++ rest) k) ≡ false → (any_touches conf (es ++ rest) k ≡ false → any_touches conf es k ≡ false) → (b || any_touches conf es k) ≡ false
    go true f ih = f
    go false f ih = ih f

-- entries that come have events of their own
come_own : (stage : Stage) (es : List Numbered) (c : Cells) → AllCome stage c es → Each (λ (e : Numbered). OwnsEvents stage e.number) es
come_own stage [] c h = tt
come_own stage (e ∷ es) c h = (h.0, come_own stage es (after stage c e) h.3)

each_first : {A : Type 0} (P : A → Type 0) (xs ys : List A) → Each P (xs ++ ys) → Each P xs
each_first P [] ys h = tt
each_first P (x ∷ xs) ys h = (h.0, each_first P xs ys h.1)

-- entries come to two families that agree on their feet
come_agrees : (stage : Stage) (K : Key → Type 0) → K TickKey → (es : List Numbered) (c d : Cells) → IsTidy stage c → IsTidy stage d → ((e : Numbered) → In e es → (k : Key) → touches stage.conf e.entry k ≡ true → K k)
    → ((k : Key) → K k → c k ≡ d k) → AllCome stage c es → AllCome stage d es
come_agrees stage K ticks [] c d tidy_c tidy_d inside same h = tt
come_agrees stage K ticks (e ∷ es) c d tidy_c tidy_d inside same h = (
  h.0,
  λ id t. subst (λ (cell : ItemCell). cell.seen ≤ moment_of e.entry) (same (ItemKey id) (inside e (inl refl) (ItemKey id) t)) (h.1 id t),
  h.2,
  come_agrees stage K ticks es (after stage c e) (after stage d e) (stays_tidy stage c e h.0 tidy_c) (stays_tidy stage d e h.0 tidy_d) (λ x i. inside x (inr i)) (step_agrees stage K ticks e c d h.0 tidy_c tidy_d (inside e (inl refl)) same) h.3,
)

-- so many triggers are evaluated over both
same_evaluations : (stage : Stage) (K : Key → Type 0) → K TickKey → (es : List Numbered) (c d : Cells) → Each (λ (e : Numbered). OwnsEvents stage e.number) es → IsTidy stage c → IsTidy stage d → ((e : Numbered) → In e es → (k : Key) → touches stage.conf e.entry k ≡ true → K k)
    → ((k : Key) → K k → c k ≡ d k) → evaluations stage c es ≡ evaluations stage d es
same_evaluations stage K ticks [] c d owns tidy_c tidy_d inside same = refl
same_evaluations stage K ticks (e ∷ es) c d owns tidy_c tidy_d inside same =
    let own : triggers_at stage.conf (memory_in c) e.number e.entry ≡ triggers_at stage.conf (memory_in d) e.number e.entry =
    triggers_by stage.conf (memory_in c) (memory_in d) e.number e.entry (visits_agree stage.conf e c d (record { at = λ k t. same k (inside e (inl refl) k t); tick = same TickKey ticks })) in
    let rest : evaluations stage (after stage c e) es ≡ evaluations stage (after stage d e) es =
    same_evaluations stage K ticks es (after stage c e) (after stage d e) owns.1 (stays_tidy stage c e owns.0 tidy_c) (stays_tidy stage d e owns.0 tidy_d) (λ x i. inside x (inr i)) (step_agrees stage K ticks e c d owns.0 tidy_c tidy_d (inside e (inl refl)) same) in
    ap (λ ids. length ids + evaluations stage (after stage c e) es) own ∙ ap (λ n. length (triggers_at stage.conf (memory_in d) e.number e.entry) + n) rest

-- the cells of the feet and the first Tick, over cells before the first entry
abbrev mixed : Stage → List Numbered → Cells → Cells
mixed stage es c (ItemKey id) = cond (any_touches stage.conf es (ItemKey id)) (c (ItemKey id)) (look (fresh stage) [] [] (ItemKey id))
mixed stage es c (TriggerKey id) = cond (any_touches stage.conf es (TriggerKey id)) (c (TriggerKey id)) (look (fresh stage) [] [] (TriggerKey id))
mixed stage es c TickKey = c TickKey

module _ (stage : Stage) (es : List Numbered) (part copied back : PartView) (s first : CellsView) (blank : Represents stage s (look (fresh stage) [] [])) (copy : IsCopy copied part) (in_place : IsReplaced s copied first) (taken : IsTaken s copied back)
    (held : CellsView) (c : Cells) (of : IsPartOf stage.conf es held part) (r : Represents stage held c) (comes : AllCome stage c es) where
  abbrev m : Cells
  m = mixed stage es c

  size_items : length s.items ≡ length held.items
  size_items = blank.items ∙ sym r.items

  size_memories : length s.memories ≡ length held.memories
  size_memories = blank.memories ∙ sym r.memories

  size_problems : length s.problems ≡ length held.problems
  size_problems = blank.triggers ∙ sym r.triggers

  pub begins : Represents stage first m
  begins = mixed_represents stage (any_touches stage.conf es) held s first c (look (fresh stage) [] []) m r blank
      (λ id. into (any_touches stage.conf es (ItemKey id)) (at_id held.items id) (at_id s.items id) (at_id first.items id) (cell_in copied id) (some_same s.items held.items id size_items) (copy.cells id ∙ of.cells id) (in_place.items id))
      (λ id. into (any_touches stage.conf es (ItemKey id)) (at_id held.memories id) (at_id s.memories id) (at_id first.memories id) (marks_in copied id) (some_same s.memories held.memories id size_memories) (copy.marks id ∙ of.marks id) (in_place.memories id))
      (λ id. into (any_touches stage.conf es (TriggerKey id)) (at_id held.problems id) (at_id s.problems id) (at_id first.problems id) (problems_in copied id) (some_same s.problems held.problems id size_problems) (copy.problems id ∙ of.problems id) (in_place.problems id))
      (λ id. refl) (λ id. refl) (in_place.tick ∙ copy.tick ∙ of.tick ∙ r.tick)

  back_cells : (id : ℕ) → cell_in back id ≡ cond (any_touches stage.conf es (ItemKey id)) (at_id s.items id) None
  back_cells id = back_from (any_touches stage.conf es (ItemKey id)) (at_id held.items id) (at_id s.items id) (cell_in copied id) (cell_in back id) (some_same s.items held.items id size_items) (copy.cells id ∙ of.cells id) (taken.cells id)

  back_marks : (id : ℕ) → marks_in back id ≡ cond (any_touches stage.conf es (ItemKey id)) (at_id s.memories id) None
  back_marks id = back_from (any_touches stage.conf es (ItemKey id)) (at_id held.memories id) (at_id s.memories id) (marks_in copied id) (marks_in back id) (some_same s.memories held.memories id size_memories) (copy.marks id ∙ of.marks id) (taken.marks id)

  back_problems : (id : ℕ) → problems_in back id ≡ cond (any_touches stage.conf es (TriggerKey id)) (at_id s.problems id) None
  back_problems id = back_from (any_touches stage.conf es (TriggerKey id)) (at_id held.problems id) (at_id s.problems id) (problems_in copied id) (problems_in back id) (some_same s.problems held.problems id size_problems) (copy.problems id ∙ of.problems id) (taken.problems id)

  touched : (k : Key) → any_touches stage.conf es k ≡ true → c k ≡ m k
  touched (ItemKey id) t = sym (ap (λ b. cond b (c (ItemKey id)) (look (fresh stage) [] [] (ItemKey id))) t)
  touched (TriggerKey id) t = sym (ap (λ b. cond b (c (TriggerKey id)) (look (fresh stage) [] [] (TriggerKey id))) t)
  touched TickKey t = refl

  read : (k : Key) → (any_touches stage.conf es k ≡ true) ⊎ (k ≡ TickKey) → c k ≡ m k
  read k (inl t) = touched k t
  read k (inr q) = subst (λ j. c j ≡ m j) (sym q) refl

  owns : Each (λ (e : Numbered). OwnsEvents stage e.number) es
  owns = come_own stage es c comes

  pub come : AllCome stage m es
  come = come_agrees stage (λ k. (any_touches stage.conf es k ≡ true) ⊎ (k ≡ TickKey)) (inr refl) es c m r.tidy begins.tidy (λ e i k t. inl (any_intro (λ x. touches stage.conf x.entry k) e es i t)) read comes

  pub counts : evaluations stage c es ≡ evaluations stage m es
  counts = same_evaluations stage (λ k. (any_touches stage.conf es k ≡ true) ⊎ (k ≡ TickKey)) (inr refl) es c m owns r.tidy begins.tidy (λ e i k t. inl (any_intro (λ x. touches stage.conf x.entry k) e es i t)) read

  batch : (records_done stage m es ≡ records_done stage c es) × (put_over stage.conf es (cells_done stage m es) c ≡ cells_done stage c es)
  batch = batch_on_a_copy stage es c m owns r.tidy begins.tidy (record { at = touched; tick = refl })

  pub records_same : records_done stage m es ≡ records_done stage c es
  records_same = batch.0

  tick_done : cells_done stage m es TickKey ≡ cells_done stage c es TickKey
  tick_done = go (any_touches stage.conf es TickKey) refl
    where
      over : put_over stage.conf es (cells_done stage m es) c TickKey ≡ cells_done stage c es TickKey
      over = ap (λ (f : Cells). f TickKey) batch.1

      go : (b : Bool) → any_touches stage.conf es TickKey ≡ b → cells_done stage m es TickKey ≡ cells_done stage c es TickKey
      go true e = sym (ap (λ b. cond {A = Option ℕ} b (cells_done stage m es TickKey) (c TickKey)) e) ∙ over
      go false e = batch_off stage es m owns begins.tidy TickKey e ∙ sym (ap (λ b. cond {A = Option ℕ} b (cells_done stage m es TickKey) (c TickKey)) e) ∙ over

  -- behind the entries
  module _ (left : CellsView) (done : PartView) (stands : Represents stage left (cells_done stage m es)) (out : IsTaken left back done) (next : CellsView) (put : IsReplaced held done next) where
    pub ends : Represents stage next (cells_done stage c es)
    ends = mixed_represents stage (any_touches stage.conf es) left held next (cells_done stage m es) c (cells_done stage c es) stands r
        (λ id. into (any_touches stage.conf es (ItemKey id)) (at_id left.items id) (at_id held.items id) (at_id next.items id) (cell_in done id) (some_same held.items left.items id (r.items ∙ sym stands.items))
        (back_from (any_touches stage.conf es (ItemKey id)) (at_id s.items id) (at_id left.items id) (cell_in back id) (cell_in done id) (some_same left.items s.items id (stands.items ∙ sym blank.items)) (back_cells id) (out.cells id)) (put.items id))
        (λ id. into (any_touches stage.conf es (ItemKey id)) (at_id left.memories id) (at_id held.memories id) (at_id next.memories id) (marks_in done id) (some_same held.memories left.memories id (r.memories ∙ sym stands.memories))
        (back_from (any_touches stage.conf es (ItemKey id)) (at_id s.memories id) (at_id left.memories id) (marks_in back id) (marks_in done id) (some_same left.memories s.memories id (stands.memories ∙ sym blank.memories)) (back_marks id) (out.marks id)) (put.memories id))
        (λ id. into (any_touches stage.conf es (TriggerKey id)) (at_id left.problems id) (at_id held.problems id) (at_id next.problems id) (problems_in done id) (some_same held.problems left.problems id (r.triggers ∙ sym stands.triggers))
        (back_from (any_touches stage.conf es (TriggerKey id)) (at_id s.problems id) (at_id left.problems id) (problems_in back id) (problems_in done id) (some_same left.problems s.problems id (stands.triggers ∙ sym blank.triggers)) (back_problems id) (out.problems id)) (put.problems id))
        (λ id. sym (ap (λ (f : Cells). f (ItemKey id)) batch.1)) (λ id. sym (ap (λ (f : Cells). f (TriggerKey id)) batch.1)) (put.tick ∙ out.tick ∙ stands.tick ∙ tick_done)

  -- and where the cells before the first entry come back
  module _ (left end : CellsView) (some : SomeTaken stage m es left) (put : IsReplaced left back end) where
    untouched : (k : Key) → any_touches stage.conf es k ≡ false → cells_done stage m some.taken k ≡ m k
    untouched k f = batch_off stage some.taken m (each_first (λ (e : Numbered). OwnsEvents stage e.number) some.taken some.rest (subst (Each (λ (e : Numbered). OwnsEvents stage e.number)) (sym some.all) owns)) begins.tidy k (any_first stage.conf some.taken some.rest k (ap (λ xs. any_touches stage.conf xs k) some.all ∙ f))

    pub comes_back : Represents stage end (look (fresh stage) [] [])
    comes_back = mixed_represents stage (any_touches stage.conf es) s left end (look (fresh stage) [] []) (cells_done stage m some.taken) (look (fresh stage) [] []) blank some.represented
        (λ id. into (any_touches stage.conf es (ItemKey id)) (at_id s.items id) (at_id left.items id) (at_id end.items id) (cell_in back id) (some_same left.items s.items id (some.represented.items ∙ sym blank.items)) (back_cells id) (put.items id))
        (λ id. into (any_touches stage.conf es (ItemKey id)) (at_id s.memories id) (at_id left.memories id) (at_id end.memories id) (marks_in back id) (some_same left.memories s.memories id (some.represented.memories ∙ sym blank.memories)) (back_marks id) (put.memories id))
        (λ id. into (any_touches stage.conf es (TriggerKey id)) (at_id s.problems id) (at_id left.problems id) (at_id end.problems id) (problems_in back id) (some_same left.problems s.problems id (some.represented.triggers ∙ sym blank.triggers)) (back_problems id) (put.problems id))
        (λ id. item id (any_touches stage.conf es (ItemKey id)) refl) (λ id. trigger id (any_touches stage.conf es (TriggerKey id)) refl) (put.tick ∙ taken.tick ∙ blank.tick)
      where
        item : (id : ℕ) (b : Bool) → any_touches stage.conf es (ItemKey id) ≡ b → look (fresh stage) [] [] (ItemKey id) ≡ cond b (look (fresh stage) [] [] (ItemKey id)) (cells_done stage m some.taken (ItemKey id))
        item id true e = refl
        item id false e = sym (untouched (ItemKey id) e ∙ ap (λ b. cond b (c (ItemKey id)) (look (fresh stage) [] [] (ItemKey id))) e)

        trigger : (id : ℕ) (b : Bool) → any_touches stage.conf es (TriggerKey id) ≡ b → look (fresh stage) [] [] (TriggerKey id) ≡ cond b (look (fresh stage) [] [] (TriggerKey id)) (cells_done stage m some.taken (TriggerKey id))
        trigger id true e = refl
        trigger id false e = sym (untouched (TriggerKey id) e ∙ ap (λ b. cond b (c (TriggerKey id)) (look (fresh stage) [] [] (TriggerKey id))) e)

blank_of : (stage : Stage) (s : CellsView) → Holds (fresh stage) s [] → Represents stage s (look (fresh stage) [] [])
unfolding AreCellsOf
blank_of stage s h = subst (Represents stage s) h.stand h.represented

holds_blank : (stage : Stage) (s : CellsView) → Represents stage s (look (fresh stage) [] []) → Holds (fresh stage) s []
unfolding AreCellsOf
holds_blank stage s r = record { cells = look (fresh stage) [] []; stand = refl; represented = r }

module _ (stage : Stage) (es : List Numbered) (part copied back : PartView) (s first : CellsView) (holds : Holds (fresh stage) s []) (copy : IsCopy copied part) (in_place : IsReplaced s copied first) (taken : IsTaken s copied back) where
  pub holds_again : (left end : CellsView) → IsWorkable stage es part → AreSteppedTo stage first es left → IsReplaced left back end → Holds (fresh stage) end []
  holds_again left end w stepped put =
      holds_blank stage end (comes_back stage es part copied back s first (blank_of stage s holds) copy in_place taken w.held w.cells w.of w.represented w.come left end
      (stepped (mixed stage es w.cells) (begins stage es part copied back s first (blank_of stage s holds) copy in_place taken w.held w.cells w.of w.represented w.come) (come stage es part copied back s first (blank_of stage s holds) copy in_place taken w.held w.cells w.of w.represented w.come)) put)

  pub worked_out : (left : CellsView) (done : PartView) (made : List (List Rec)) → AllMade stage first es made left → IsTaken left back done → WorksOut stage es part done made
  unfolding WorksOut
  worked_out left done made all out held c of r come_c =
      let b = begins stage es part copied back s first (blank_of stage s holds) copy in_place taken held c of r come_c in
      let a = all (mixed stage es c) b (come stage es part copied back s first (blank_of stage s holds) copy in_place taken held c of r come_c) in
      (a.0 ∙ records_same stage es part copied back s first (blank_of stage s holds) copy in_place taken held c of r come_c, λ next put. ends stage es part copied back s first (blank_of stage s holds) copy in_place taken held c of r come_c left done a.1 out next put)

  pub was_counted : (before now : ℕ) → AllCounted stage first es before now → IsCounted stage es part before now
  unfolding IsCounted
  was_counted before now all held c of r come_c =
      let b = begins stage es part copied back s first (blank_of stage s holds) copy in_place taken held c of r come_c in
      all (mixed stage es c) b (come stage es part copied back s first (blank_of stage s holds) copy in_place taken held c of r come_c)
      ∙ ap (λ n. before + n) (sym (counts stage es part copied back s first (blank_of stage s holds) copy in_place taken held c of r come_c))

-- ---- entries that suit a log come to its cells

suits_older : (start : Start) (newer older : List Numbered) → Suits start (newer ++ older) → Suits start older
suits_older start [] older h = h
suits_older start (e ∷ newer) older h = suits_older start newer older h.0

onto : (e : Numbered) (es log : List Numbered) → reverse (e ∷ es) ++ log ≡ reverse es ++ e ∷ log
onto e es log = ap (λ xs. xs ++ log) (reverse-append (e ∷ []) es) ∙ append_assoc (reverse es) (e ∷ []) log

pub all_come : (start : Start) (es log : List Numbered) (c : Cells) → AreCellsOf start c log → Each (λ (e : Numbered). OwnsEvents start.stage e.number) es → Suits start (reverse es ++ log) → AllCome start.stage c es
all_come start [] log c stand owns h = tt
all_come start (e ∷ es) log c stand owns h =
    let all : Suits start (reverse es ++ e ∷ log) = subst (Suits start) (onto e es log) h in
    let own : Suits start (e ∷ log) = suits_older start (reverse es) (e ∷ log) all in
    (owns.0, comes_after start c log e stand own, own.2, all_come start es (e ∷ log) (after start.stage c e) (one_entry start c log e stand).1 owns.1 all)

pub workable_first : (stage : Stage) (es : List Numbered) (held : CellsView) (part : PartView) → Holds (fresh stage) held [] → IsPartOf stage.conf es held part → Each (λ (e : Numbered). OwnsEvents stage e.number) es → Suits (fresh stage) (log_of es) → IsWorkable stage es part
workable_first stage es held part h of owns s =
    record { held = held; cells = h.cells; of = of; represented = h.represented; come = all_come (fresh stage) es [] h.cells h.stand owns (subst (Suits (fresh stage)) (sym (append-nil (reverse es))) s) }
