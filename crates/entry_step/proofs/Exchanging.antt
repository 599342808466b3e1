-- Copies of cells, and copies that are exchanged for cells.
use Rattle.std.proofs.Common.{◌≡◌, ◌≢◌, ◌↔◌, ℕ, ◌+◌, ◌<◌, ◌≤◌, ◌==◌, Bool, true, false, cond, ◌&&◌, ◌||◌, inl, inr, List, [], ◌∷◌, ◌++◌, map, Option, Some, None, option_map, length, set, get_or, take, drop, append-nil, refl, sym, ◌∙◌, ap, subst, eq-eqb, eqb-true, ne_eqb, arith}
use Rattle.std.specs.Prelude.{nat_lt}
use Rattle.std.specs.List.{cons_option, list_all}
use Rattle.std.specs.Option.{unwrap_or}
use Rattle.std.proofs.lemmas.Bool.{ltb-true}
use Rattle.std.proofs.lemmas.List.{drop_more, drop-set-lt, take_more_set, take_all, drop_all}
use Rattle.zbx_types.specs.Ids.{at_id}
use Rattle.zbx_types.specs.Masters.{has_id}
use Rattle.zbx_types.specs.declared.entries.Stored.{Stored}
use Rattle.prep_steps.specs.declared.memory.StepMemory.{StepMemory}
use Rattle.value_cache.specs.Cells.{CellView, IsSame as IsSameKept}
use Rattle.value_cache.specs.declared.keeping.Keep.{Keep}
use Rattle.trigger_state.specs.declared.problems.Open.{Open}
use Rattle.footprint.specs.Rows.{rises, those, is_one}
use Rattle.footprint.proofs.IdLemmas.{has_those}
use Rattle.footprint.proofs.TableLemmas.{rises_those}
use Rattle.preprocess.specs.Rows.{with_row}
use Rattle.preprocess.proofs.Rows.{row_same, row_other}
use Rattle.preprocess.proofs.Logs.{at_map}
use Rattle.entry_step.specs.Each.{Each, In}
use Rattle.value_cache.specs.Tokens.{TokenView}
use Rattle.preprocess.specs.Draft.{roomless}
use Rattle.entry_step.specs.Parts.{row_with}
use Rattle.entry_step.specs.Exchange.{roomless_row, item_copy, trigger_copy, item_copies, trigger_copies, put_all, item_taken, trigger_taken, items_taken, triggers_taken, IsSameCell}
use Rattle.entry_step.specs.declared.parts.ItemRow.{ItemRow}
use Rattle.entry_step.specs.declared.parts.TriggerRow.{TriggerRow}
use Rattle.entry_step.proofs.Feet.{gone}
use Rattle.entry_step.proofs.Phases.{none_same}

abbrev pub item_id : ItemRow → ℕ
item_id row = row.id

abbrev pub item_cell : ItemRow → CellView
item_cell row = row.cell

abbrev pub item_marks : ItemRow → List StepMemory
item_marks row = row.marks

abbrev pub trigger_id : TriggerRow → ℕ
trigger_id row = row.id

abbrev pub trigger_problems : TriggerRow → List Open
trigger_problems row = row.problems

cond_none : {A : Type 0} (b : Bool) → cond {A = Option A} b None None ≡ None
cond_none true = refl
cond_none false = refl

-- ---- one row

pub same_roomless : (one other : CellView) → IsSameKept one other → roomless one ≡ roomless other
same_roomless one other same =
    let a : (k : Keep) → CellView = λ k. record { keep = k; values = one.values; tokens = one.tokens; room = 0 } in
    let b : (v : List Stored) → CellView = λ v. record { keep = other.keep; values = v; tokens = one.tokens; room = 0 } in
    let d : (t : List TokenView) → CellView = λ t. record { keep = other.keep; values = other.values; tokens = t; room = 0 } in
    ap a same.0 ∙ ap b same.1 ∙ ap d same.2

pub roomless_is : (one other : CellView) → roomless one ≡ roomless other → IsSameKept one other
roomless_is one other e = (ap (λ (c : CellView). c.keep) e, ap (λ (c : CellView). c.values) e, ap (λ (c : CellView). c.tokens) e)

pub row_made : (id : ℕ) (made cell : CellView) (kept marks : List StepMemory) → IsSameKept made cell → kept ≡ marks
    → roomless_row (record { id = id; cell = made; marks = kept }) ≡ record { id = id; cell = roomless cell; marks = marks }
row_made id made cell kept marks same e =
    let a : (c : CellView) → ItemRow = λ c. record { id = id; cell = c; marks = kept } in
    let b : (m : List StepMemory) → ItemRow = λ m. record { id = id; cell = roomless cell; marks = m } in
    ap a (same_roomless made cell same) ∙ ap b e

-- the row of what has an id
pub row_missing : (cells : List CellView) (marks : Option (List StepMemory)) (id : ℕ) → at_id cells id ≡ None → item_copy id (at_id (map roomless cells) id) marks ≡ None
row_missing cells marks id e = ap (λ o. item_copy id o marks) (at_map roomless cells id ∙ ap (option_map roomless) e)

pub row_there : (cells : List CellView) (memories : List (List StepMemory)) (id : ℕ) (cell : CellView) (marks : List StepMemory) → at_id cells id ≡ Some cell → at_id memories id ≡ Some marks
    → item_copy id (at_id (map roomless cells) id) (at_id memories id) ≡ Some (record { id = id; cell = roomless cell; marks = marks })
row_there cells memories id cell marks e m = ap (λ o. item_copy id o (at_id memories id)) (at_map roomless cells id ∙ ap (option_map roomless) e) ∙ ap (item_copy id (Some (roomless cell))) m

-- whether a copy of a cell is what is kept
pub cell_none : (cells : List CellView) (row : ItemRow) → at_id cells row.id ≡ None → IsSameCell cells row → ⊥
cell_none cells row e same = let q = sym (ap (option_map roomless) e) ∙ same in cc

pub cell_some : (cells : List CellView) (row : ItemRow) (cell : CellView) → at_id cells row.id ≡ Some cell → IsSameKept cell row.cell ↔ IsSameCell cells row
cell_some cells row cell e = (
  λ same. ap (option_map roomless) e ∙ ap Some (same_roomless cell row.cell same),
  λ same. let q : Some (roomless cell) ≡ Some (roomless row.cell) = sym (ap (option_map roomless) e) ∙ same in roomless_is cell row.cell (let r : roomless cell ≡ roomless row.cell = cc in r),
)

-- ---- rows by ids

module _ {R : Type 0} (id_of : R → ℕ) where
  pub id_found : (rows : List R) (id : ℕ) (row : R) → row_with id_of rows id ≡ Some row → id_of row ≡ id
  id_found [] id row e = cc
  id_found (r ∷ rows) id row e = go (id_of r == id) refl e (id_found rows id row)
    where
      go : (b : Bool) → (id_of r == id) ≡ b → cond b (Some r) (row_with id_of rows id) ≡ Some row → (row_with id_of rows id ≡ Some row → id_of row ≡ id) → id_of row ≡ id
      go true t e ih = let q : r ≡ row = cc in ap id_of (sym q) ∙ eqb-true (id_of r) id t
      go false t e ih = ih e

  -- an id below all of them isn't there
  none_above : (rows : List R) (id : ℕ) → list_all (λ y. nat_lt id y) (map id_of rows) ≡ true → row_with id_of rows id ≡ None
  none_above [] id h = refl
  none_above (r ∷ rows) id h =
      let l = ltb-true id (id_of r) (first (nat_lt id (id_of r)) (list_all (λ y. nat_lt id y) (map id_of rows)) h) in
      let n : (id_of r == id) ≡ false = ne_eqb (id_of r) id (λ q. absurd (omega arith)) in
      rw n (none_above rows id (second (nat_lt id (id_of r)) (list_all (λ y. nat_lt id y) (map id_of rows)) h))
    where
      first : (a b : Bool) → (a && b) ≡ true → a ≡ true
      first true b e = refl
      first false b e = e

      second : (a b : Bool) → (a && b) ≡ true → b ≡ true
      second true b e = e
      second false b e = cc

  -- each row has something that the first one with its id has
  pub each_found : (P : R → Type 0) (rows : List R) → Each P rows → (id : ℕ) (row : R) → row_with id_of rows id ≡ Some row → P row
  each_found P [] h id row e = absurd (cc)
  each_found P (r ∷ rows) h id row e = go (id_of r == id) e (each_found P rows h.1 id row)
    where
      go : (b : Bool) → cond b (Some r) (row_with id_of rows id) ≡ Some row → (row_with id_of rows id ≡ Some row → P row) → P row
      go true e ih = let q : r ≡ row = cc in subst P q h.0
      go false e ih = ih e

  all_in : (rows : List R) (low : ℕ) (row : R) → list_all (λ y. nat_lt low y) (map id_of rows) ≡ true → In row rows → nat_lt low (id_of row) ≡ true
  all_in [] low row h i = absurd i
  all_in (r ∷ rows) low row h (inl q) = go (nat_lt low (id_of r)) refl h
    where
      go : (b : Bool) → nat_lt low (id_of r) ≡ b → (b && list_all (λ y. nat_lt low y) (map id_of rows)) ≡ true → nat_lt low (id_of row) ≡ true
      go true e h = ap (λ x. nat_lt low (id_of x)) q ∙ e
      go false e h = cc
  all_in (r ∷ rows) low row h (inr i) = go (nat_lt low (id_of r)) h (all_in rows low row)
    where
      go : (b : Bool) → (b && list_all (λ y. nat_lt low y) (map id_of rows)) ≡ true → (list_all (λ y. nat_lt low y) (map id_of rows) ≡ true → In row rows → nat_lt low (id_of row) ≡ true) → nat_lt low (id_of row) ≡ true
      go true h ih = ih h i
      go false h ih = cc

  -- where ids rise, each row is the first one with its id
  pub own_found : (rows : List R) → rises (map id_of rows) ≡ true → (row : R) → In row rows → row_with id_of rows (id_of row) ≡ Some row
  own_found [] h row i = absurd i
  own_found (r ∷ rows) h row (inl q) = let n : (id_of r == id_of row) ≡ true = eq-eqb (id_of r) (id_of row) (ap id_of (sym q)) in rw n (ap Some (sym q))
  own_found (r ∷ rows) h row (inr i) =
      let p = parts (list_all (λ y. nat_lt (id_of r) y) (map id_of rows)) (rises (map id_of rows)) h in
      let l = ltb-true (id_of r) (id_of row) (all_in rows (id_of r) row p.0 i) in
      let n : (id_of r == id_of row) ≡ false = ne_eqb (id_of r) (id_of row) (λ q. absurd (omega arith)) in
      rw n (own_found rows p.1 row i)
    where
      parts : (a b : Bool) → (a && b) ≡ true → (a ≡ true) × (b ≡ true)
      parts true b e = (refl, e)
      parts false b e = absurd (cc)

  module _ {V : Type 0} (value_of : R → V) where
    -- what stands at an id once all rows are put in their places
    pub at_put_all : (rows : List R) → rises (map id_of rows) ≡ true → (values : List V) (id : ℕ)
        → at_id (put_all id_of value_of values rows) id ≡ option_map (unwrap_or (option_map value_of (row_with id_of rows id))) (at_id values id)
    at_put_all [] h values id = same (at_id values id)
      where
        same : (o : Option V) → o ≡ option_map (unwrap_or None) o
        same None = refl
        same (Some x) = refl
    at_put_all (r ∷ rows) h values id = go (id_of r == id) refl (at_put_all rows p.1 (with_row values (id_of r) (value_of r)) id)
      where
        parts : (a b : Bool) → (a && b) ≡ true → (a ≡ true) × (b ≡ true)
        parts true b e = (refl, e)
        parts false b e = absurd (cc)

        p : (list_all (λ y. nat_lt (id_of r) y) (map id_of rows) ≡ true) × (rises (map id_of rows) ≡ true)
        p = parts (list_all (λ y. nat_lt (id_of r) y) (map id_of rows)) (rises (map id_of rows)) h

        twice : (o : Option V) → option_map (unwrap_or None) (option_map (λ _. value_of r) o) ≡ option_map (unwrap_or (Some (value_of r))) o
        twice None = refl
        twice (Some x) = refl

        go : (b : Bool) → (id_of r == id) ≡ b
            → at_id (put_all id_of value_of (with_row values (id_of r) (value_of r)) rows) id ≡ option_map (unwrap_or (option_map value_of (row_with id_of rows id))) (at_id (with_row values (id_of r) (value_of r)) id)
            → at_id (put_all id_of value_of (with_row values (id_of r) (value_of r)) rows) id ≡ option_map (unwrap_or (option_map value_of (cond b (Some r) (row_with id_of rows id)))) (at_id values id)
        go true e ih =
            let q : id_of r ≡ id = eqb-true (id_of r) id e in
            let n : row_with id_of rows id ≡ None = subst (λ i. row_with id_of rows i ≡ None) q (none_above rows (id_of r) p.0) in
            let s : at_id (with_row values (id_of r) (value_of r)) id ≡ option_map (λ _. value_of r) (at_id values id) =
            subst (λ i. at_id (with_row values (id_of r) (value_of r)) i ≡ option_map (λ _. value_of r) (at_id values i)) q (row_same values (id_of r) (value_of r)) in
            ih ∙ ap (λ o. option_map (unwrap_or (option_map value_of o)) (at_id (with_row values (id_of r) (value_of r)) id)) n ∙ ap (option_map (unwrap_or None)) s ∙ twice (at_id values id)
        go false e ih =
            ih
            ∙ ap (option_map (unwrap_or (option_map value_of (row_with id_of rows id)))) (row_other values (id_of r) id (value_of r) (λ q. let t : (id_of r == id) ≡ true = eq-eqb (id_of r) id q in cc))

    -- one row more in a loop
    pub put_more : (rows : List R) (k : ℕ) (r : R) (values now next : List V) → k < length rows → r ≡ get_or rows k r → next ≡ with_row now (id_of r) (value_of r)
        → put_all id_of value_of now (drop k rows) ≡ values → put_all id_of value_of next (drop (k + 1) rows) ≡ values
    put_more rows k r values now next l at e so_far =
        ap (λ vs. put_all id_of value_of vs (drop (k + 1) rows)) e
        ∙ ap (λ (x : R). put_all id_of value_of (with_row now (id_of x) (value_of x)) (drop (k + 1) rows)) at
        ∙ ap (put_all id_of value_of now) (sym (drop_more rows k r l)) ∙ so_far

-- the rows that are taken, by ids
pub item_at_taken : (cells : List CellView) (memories : List (List StepMemory)) (rows : List ItemRow) (id : ℕ)
    → row_with item_id (items_taken cells memories rows) id ≡ option_map (item_taken cells memories) (row_with item_id rows id)
item_at_taken cells memories [] id = refl
item_at_taken cells memories (r ∷ rows) id = go (r.id == id) refl (item_at_taken (with_row cells r.id r.cell) (with_row memories r.id r.marks) rows id)
  where
    later : (o : Option ItemRow) → row_with item_id rows id ≡ o → r.id ≢ id
        → option_map (item_taken (with_row cells r.id r.cell) (with_row memories r.id r.marks)) o ≡ option_map (item_taken cells memories) o
    later None e ne = refl
    later (Some x) e ne =
        let q : x.id ≡ id = id_found item_id rows id x e in
        let m : r.id ≢ x.id = λ z. ne (z ∙ q) in
        let a : (o : Option CellView) → ItemRow = λ o. record { id = x.id; cell = unwrap_or o x.cell; marks = unwrap_or (at_id (with_row memories r.id r.marks) x.id) x.marks } in
        let b : (o : Option (List StepMemory)) → ItemRow = λ o. record { id = x.id; cell = unwrap_or (at_id cells x.id) x.cell; marks = unwrap_or o x.marks } in
        ap Some (ap a (row_other cells r.id x.id r.cell m) ∙ ap b (row_other memories r.id x.id r.marks m))

    go : (b : Bool) → (r.id == id) ≡ b
        → row_with item_id (items_taken (with_row cells r.id r.cell) (with_row memories r.id r.marks) rows) id ≡ option_map (item_taken (with_row cells r.id r.cell) (with_row memories r.id r.marks)) (row_with item_id rows id)
        → cond b (Some (item_taken cells memories r)) (row_with item_id (items_taken (with_row cells r.id r.cell) (with_row memories r.id r.marks) rows) id)
        ≡ option_map (item_taken cells memories) (cond b (Some r) (row_with item_id rows id))
    go true e ih = refl
    go false e ih = ih ∙ later (row_with item_id rows id) refl (λ q. let t : (r.id == id) ≡ true = eq-eqb r.id id q in cc)

pub trigger_at_taken : (problems : List (List Open)) (rows : List TriggerRow) (id : ℕ)
    → row_with trigger_id (triggers_taken problems rows) id ≡ option_map (trigger_taken problems) (row_with trigger_id rows id)
trigger_at_taken problems [] id = refl
trigger_at_taken problems (r ∷ rows) id = go (r.id == id) refl (trigger_at_taken (with_row problems r.id r.problems) rows id)
  where
    later : (o : Option TriggerRow) → row_with trigger_id rows id ≡ o → r.id ≢ id → option_map (trigger_taken (with_row problems r.id r.problems)) o ≡ option_map (trigger_taken problems) o
    later None e ne = refl
    later (Some x) e ne =
        let q : x.id ≡ id = id_found trigger_id rows id x e in
        let a : (o : Option (List Open)) → TriggerRow = λ o. record { id = x.id; problems = unwrap_or o x.problems } in
        ap Some (ap a (row_other problems r.id x.id r.problems (λ z. ne (z ∙ q))))

    go : (b : Bool) → (r.id == id) ≡ b
        → row_with trigger_id (triggers_taken (with_row problems r.id r.problems) rows) id ≡ option_map (trigger_taken (with_row problems r.id r.problems)) (row_with trigger_id rows id)
        → cond b (Some (trigger_taken problems r)) (row_with trigger_id (triggers_taken (with_row problems r.id r.problems) rows) id) ≡ option_map (trigger_taken problems) (cond b (Some r) (row_with trigger_id rows id))
    go true e ih = refl
    go false e ih = ih ∙ later (row_with trigger_id rows id) refl (λ q. let t : (r.id == id) ≡ true = eq-eqb r.id id q in cc)

-- their ids are as before
pub item_ids_taken : (cells : List CellView) (memories : List (List StepMemory)) (rows : List ItemRow) → map item_id (items_taken cells memories rows) ≡ map item_id rows
item_ids_taken cells memories [] = refl
item_ids_taken cells memories (r ∷ rows) = ap (λ ids. r.id ∷ ids) (item_ids_taken (with_row cells r.id r.cell) (with_row memories r.id r.marks) rows)

pub trigger_ids_taken : (problems : List (List Open)) (rows : List TriggerRow) → map trigger_id (triggers_taken problems rows) ≡ map trigger_id rows
trigger_ids_taken problems [] = refl
trigger_ids_taken problems (r ∷ rows) = ap (λ ids. r.id ∷ ids) (trigger_ids_taken (with_row problems r.id r.problems) rows)

append_one : {A : Type 0} (xs : List A) (x : A) (ys : List A) → (xs ++ x ∷ []) ++ ys ≡ xs ++ x ∷ ys
append_one [] x ys = refl
append_one (z ∷ xs) x ys = ap (λ zs. z ∷ zs) (append_one xs x ys)

behind : {A : Type 0} (xs : List A) (k : ℕ) (x : A) → k < length xs → drop (k + 1) (set xs k x) ≡ drop (k + 1) xs
behind xs k x l = drop-set-lt (k + 1) xs k x (omega arith)

-- one row more in a loop
pub items_more : (first rows next : List ItemRow) (k : ℕ) (r new : ItemRow) (start cells others : List CellView) (memory memories marks : List (List StepMemory)) → k < length rows → r ≡ get_or rows k r → next ≡ set rows k new
    → new ≡ item_taken cells memories r → others ≡ with_row cells r.id r.cell → marks ≡ with_row memories r.id r.marks
    → take k rows ++ items_taken cells memories (drop k rows) ≡ items_taken start memory first → take (k + 1) next ++ items_taken others marks (drop (k + 1) next) ≡ items_taken start memory first
items_more first rows next k r new start cells others memory memories marks l at e n c m so_far =
    ap (λ xs. take (k + 1) xs ++ items_taken others marks (drop (k + 1) xs)) e
    ∙ ap (λ xs. xs ++ items_taken others marks (drop (k + 1) (set rows k new))) (take_more_set rows k new l)
    ∙ append_one (take k rows) new (items_taken others marks (drop (k + 1) (set rows k new)))
    ∙ ap (λ xs. take k rows ++ new ∷ items_taken others marks xs) (behind rows k new l)
    ∙ ap (λ (x : ItemRow). take k rows ++ x ∷ items_taken others marks (drop (k + 1) rows)) n
    ∙ ap (λ cs. take k rows ++ item_taken cells memories r ∷ items_taken cs marks (drop (k + 1) rows)) c
    ∙ ap (λ ms. take k rows ++ item_taken cells memories r ∷ items_taken (with_row cells r.id r.cell) ms (drop (k + 1) rows)) m
    ∙ ap (λ (x : ItemRow). take k rows ++ item_taken cells memories x ∷ items_taken (with_row cells x.id x.cell) (with_row memories x.id x.marks) (drop (k + 1) rows)) at
    ∙ ap (λ xs. take k rows ++ items_taken cells memories xs) (sym (drop_more rows k r l)) ∙ so_far

pub triggers_more : (first rows next : List TriggerRow) (k : ℕ) (r new : TriggerRow) (start problems others : List (List Open)) → k < length rows → r ≡ get_or rows k r → next ≡ set rows k new
    → new ≡ trigger_taken problems r → others ≡ with_row problems r.id r.problems
    → take k rows ++ triggers_taken problems (drop k rows) ≡ triggers_taken start first → take (k + 1) next ++ triggers_taken others (drop (k + 1) next) ≡ triggers_taken start first
triggers_more first rows next k r new start problems others l at e n p so_far =
    ap (λ xs. take (k + 1) xs ++ triggers_taken others (drop (k + 1) xs)) e
    ∙ ap (λ xs. xs ++ triggers_taken others (drop (k + 1) (set rows k new))) (take_more_set rows k new l)
    ∙ append_one (take k rows) new (triggers_taken others (drop (k + 1) (set rows k new)))
    ∙ ap (λ xs. take k rows ++ new ∷ triggers_taken others xs) (behind rows k new l)
    ∙ ap (λ (x : TriggerRow). take k rows ++ x ∷ triggers_taken others (drop (k + 1) rows)) n
    ∙ ap (λ ps. take k rows ++ trigger_taken problems r ∷ triggers_taken ps (drop (k + 1) rows)) p
    ∙ ap (λ (x : TriggerRow). take k rows ++ trigger_taken problems x ∷ triggers_taken (with_row problems x.id x.problems) (drop (k + 1) rows)) at
    ∙ ap (λ xs. take k rows ++ triggers_taken problems xs) (sym (drop_more rows k r l)) ∙ so_far

-- what is left of rows where one is another
pub rest_more : {R V : Type 0} (id_of : R → ℕ) (value_of : R → V) (rows next : List R) (k : ℕ) (r new : R) (values now others : List V) → k < length rows → r ≡ get_or rows k r → next ≡ set rows k new
    → others ≡ with_row now (id_of r) (value_of r) → put_all id_of value_of now (drop k rows) ≡ values → put_all id_of value_of others (drop (k + 1) next) ≡ values
rest_more id_of value_of rows next k r new values now others l at e p so_far =
    ap (λ xs. put_all id_of value_of others (drop (k + 1) xs)) e ∙ ap (put_all id_of value_of others) (behind rows k new l)
    ∙ put_more id_of value_of rows k r values now others l at p so_far

-- ---- copies by ids

module _ {R : Type 0} (id_of : R → ℕ) where
  -- rows whose ids are the same, each with something of its own
  pub row_with_map : (f : R → R) → ((r : R) → id_of (f r) ≡ id_of r) → (rows : List R) (id : ℕ) → row_with id_of (map f rows) id ≡ option_map f (row_with id_of rows id)
  row_with_map f same [] id = refl
  row_with_map f same (r ∷ rows) id = ap (λ i. cond (i == id) (Some (f r)) (row_with id_of (map f rows) id)) (same r) ∙ go (id_of r == id) (row_with_map f same rows id)
    where
      go : (b : Bool) → row_with id_of (map f rows) id ≡ option_map f (row_with id_of rows id) → cond b (Some (f r)) (row_with id_of (map f rows) id) ≡ option_map f (cond b (Some r) (row_with id_of rows id))
      go true e = refl
      go false e = e

  pub ids_map : (f : R → R) → ((r : R) → id_of (f r) ≡ id_of r) → (rows : List R) → map id_of (map f rows) ≡ map id_of rows
  ids_map f same [] = refl
  ids_map f same (r ∷ rows) = ap (λ i. i ∷ map id_of (map f rows)) (same r) ∙ ap (λ is. id_of r ∷ is) (ids_map f same rows)

  -- copies of what ids have
  module _ (copy : ℕ → Option R) (own : (id : ℕ) (r : R) → copy id ≡ Some r → id_of r ≡ id) where
    abbrev pub copies_at : List ℕ → List R
    copies_at [] = []
    copies_at (id ∷ ids) = cons_option (copy id) (copies_at ids)

    pub found_copy : (ids : List ℕ) (id : ℕ) → row_with id_of (copies_at ids) id ≡ cond (has_id ids id) (copy id) None
    found_copy [] id = refl
    found_copy (i ∷ ids) id = go (i == id) refl (copy i) refl (found_copy ids id)
      where
        go : (b : Bool) → (i == id) ≡ b → (o : Option R) → copy i ≡ o → row_with id_of (copies_at ids) id ≡ cond (has_id ids id) (copy id) None
            → row_with id_of (cons_option o (copies_at ids)) id ≡ cond (b || has_id ids id) (copy id) None
        go true e None q ih =
            let n : copy id ≡ None = ap copy (sym (eqb-true i id e)) ∙ q in
            ih ∙ ap (λ o. cond (has_id ids id) o None) n ∙ cond_none (has_id ids id) ∙ sym n
        go true e (Some r) q ih =
            let n : (id_of r == id) ≡ true = eq-eqb (id_of r) id (own i r q ∙ eqb-true i id e) in
            let s : copy id ≡ Some r = ap copy (sym (eqb-true i id e)) ∙ q in
            rw n (sym s)
        go false e None q ih = ih
        go false e (Some r) q ih =
            let n : (id_of r == id) ≡ false = ap (λ j. j == id) (own i r q) ∙ e in
            rw n ih

    above_copies : (low : ℕ) (ids : List ℕ) → list_all (λ y. nat_lt low y) ids ≡ true → list_all (λ y. nat_lt low y) (map id_of (copies_at ids)) ≡ true
    above_copies low [] h = refl
    above_copies low (i ∷ ids) h = go (nat_lt low i) refl h (copy i) refl (above_copies low ids)
      where
        go : (b : Bool) → nat_lt low i ≡ b → (b && list_all (λ y. nat_lt low y) ids) ≡ true → (o : Option R) → copy i ≡ o
            → (list_all (λ y. nat_lt low y) ids ≡ true → list_all (λ y. nat_lt low y) (map id_of (copies_at ids)) ≡ true)
            → list_all (λ y. nat_lt low y) (map id_of (cons_option o (copies_at ids))) ≡ true
        go true e h None q ih = ih h
        go true e h (Some r) q ih = let n : nat_lt low (id_of r) ≡ true = ap (λ j. nat_lt low j) (own i r q) ∙ e in rw n (ih h)
        go false e h o q ih = cc

    pub copies_rise : (ids : List ℕ) → rises ids ≡ true → rises (map id_of (copies_at ids)) ≡ true
    copies_rise [] h = refl
    copies_rise (i ∷ ids) h = go (list_all (λ y. nat_lt i y) ids) refl h (copy i) refl (copies_rise ids)
      where
        go : (b : Bool) → list_all (λ y. nat_lt i y) ids ≡ b → (b && rises ids) ≡ true → (o : Option R) → copy i ≡ o → (rises ids ≡ true → rises (map id_of (copies_at ids)) ≡ true)
            → rises (map id_of (cons_option o (copies_at ids))) ≡ true
        go true e h None q ih = ih h
        go true e h (Some r) q ih =
            let n : list_all (λ y. nat_lt (id_of r) y) (map id_of (copies_at ids)) ≡ true =
            subst (λ j. list_all (λ y. nat_lt j y) (map id_of (copies_at ids)) ≡ true) (sym (own i r q)) (above_copies i ids e) in
            rw n (ih h)
        go false e h o q ih = cc

item_copy_id : (o : Option CellView) (m : Option (List StepMemory)) (id : ℕ) (r : ItemRow) → item_copy id o m ≡ Some r → r.id ≡ id
item_copy_id None m id r e = cc
item_copy_id (Some cell) None id r e = cc
item_copy_id (Some cell) (Some marks) id r e =
    let made : ItemRow = record { id = id; cell = cell; marks = marks } in
    let q : made ≡ r = cc in ap item_id (sym q)

trigger_copy_id : (o : Option (List Open)) (id : ℕ) (r : TriggerRow) → trigger_copy id o ≡ Some r → r.id ≡ id
trigger_copy_id None id r e = cc
trigger_copy_id (Some problems) id r e =
    let made : TriggerRow = record { id = id; problems = problems } in
    let q : made ≡ r = cc in ap trigger_id (sym q)

items_are : (cells : List CellView) (memories : List (List StepMemory)) (ids : List ℕ)
    → item_copies cells memories ids ≡ copies_at item_id (λ id. item_copy id (at_id cells id) (at_id memories id)) (λ id r e. item_copy_id (at_id cells id) (at_id memories id) id r e) ids
items_are cells memories [] = refl
items_are cells memories (id ∷ ids) = ap (cons_option (item_copy id (at_id cells id) (at_id memories id))) (items_are cells memories ids)

triggers_are : (problems : List (List Open)) (ids : List ℕ)
    → trigger_copies problems ids ≡ copies_at trigger_id (λ id. trigger_copy id (at_id problems id)) (λ id r e. trigger_copy_id (at_id problems id) id r e) ids
triggers_are problems [] = refl
triggers_are problems (id ∷ ids) = ap (cons_option (trigger_copy id (at_id problems id))) (triggers_are problems ids)

same_id : (r : ItemRow) → item_id (roomless_row r) ≡ item_id r
same_id r = refl

-- the row that a look-up finds, without room
pub plain_found : (rows : List ItemRow) (id : ℕ) → row_with item_id (map roomless_row rows) id ≡ option_map roomless_row (row_with item_id rows id)
plain_found rows id = row_with_map item_id roomless_row same_id rows id

pub plain_ids : (rows : List ItemRow) → map item_id (map roomless_row rows) ≡ map item_id rows
plain_ids rows = ids_map item_id roomless_row same_id rows

map_more : {A B : Type 0} (f : A → B) (xs ys : List A) → map f (xs ++ ys) ≡ map f xs ++ map f ys
map_more f [] ys = refl
map_more f (x ∷ xs) ys = ap (λ zs. f x ∷ zs) (map_more f xs ys)

-- one copy more in a loop
added : {A B : Type 0} (f : A → B) (rows : List A) (rest : List B) (row : Option A) (o : Option B) → option_map f row ≡ o → map f (rows ++ cons_option row []) ++ rest ≡ map f rows ++ cons_option o rest
added f rows rest None None e = ap (λ rs. map f rs ++ rest) (append-nil rows)
added f rows rest None (Some b) e = cc
added f rows rest (Some a) None e = cc
added f rows rest (Some a) (Some b) e =
    let q : f a ≡ b = cc in
    ap (λ xs. xs ++ rest) (map_more f rows (a ∷ [])) ∙ append_one (map f rows) (f a) rest ∙ ap (λ x. map f rows ++ x ∷ rest) q

pub copies_more : (cells : List CellView) (memories : List (List StepMemory)) (ids : List ℕ) (k id : ℕ) (rows next : List ItemRow) (row : Option ItemRow) (whole : List ItemRow) → k < length ids → id ≡ get_or ids k 0 → next ≡ rows ++ cons_option row []
    → option_map roomless_row row ≡ item_copy id (at_id cells id) (at_id memories id) → map roomless_row rows ++ item_copies cells memories (drop k ids) ≡ whole → map roomless_row next ++ item_copies cells memories (drop (k + 1) ids) ≡ whole
copies_more cells memories ids k id rows next row whole l at e made so_far =
    ap (λ rs. map roomless_row rs ++ item_copies cells memories (drop (k + 1) ids)) e
    ∙ added roomless_row rows (item_copies cells memories (drop (k + 1) ids)) row (item_copy id (at_id cells id) (at_id memories id)) made
    ∙ ap (λ i. map roomless_row rows ++ item_copies cells memories (i ∷ drop (k + 1) ids)) at
    ∙ ap (λ is. map roomless_row rows ++ item_copies cells memories is) (sym (drop_more ids k 0 l)) ∙ so_far

same_rows : {A : Type 0} (o : Option A) → option_map (λ x. x) o ≡ o
same_rows None = refl
same_rows (Some x) = refl

map_same : {A : Type 0} (xs : List A) → map (λ x. x) xs ≡ xs
map_same [] = refl
map_same (x ∷ xs) = ap (λ ys. x ∷ ys) (map_same xs)

pub trigger_copies_more : (problems : List (List Open)) (ids : List ℕ) (k id : ℕ) (rows next : List TriggerRow) (row : Option TriggerRow) (whole : List TriggerRow) → k < length ids → id ≡ get_or ids k 0 → next ≡ rows ++ cons_option row []
    → row ≡ trigger_copy id (at_id problems id) → rows ++ trigger_copies problems (drop k ids) ≡ whole → next ++ trigger_copies problems (drop (k + 1) ids) ≡ whole
trigger_copies_more problems ids k id rows next row whole l at e made so_far =
    ap (λ rs. rs ++ trigger_copies problems (drop (k + 1) ids)) (e ∙ sym (map_same (rows ++ cons_option row [])))
    ∙ added (λ (x : TriggerRow). x) rows (trigger_copies problems (drop (k + 1) ids)) row (trigger_copy id (at_id problems id)) (same_rows row ∙ made)
    ∙ ap (λ rs. rs ++ cons_option (trigger_copy id (at_id problems id)) (trigger_copies problems (drop (k + 1) ids))) (map_same rows)
    ∙ ap (λ i. rows ++ trigger_copies problems (i ∷ drop (k + 1) ids)) at
    ∙ ap (λ is. rows ++ trigger_copies problems is) (sym (drop_more ids k 0 l)) ∙ so_far

module _ (cells : List CellView) (memories : List (List StepMemory)) (p : ℕ → Bool) (rows : List ItemRow) (are : map roomless_row rows ≡ item_copies cells memories (those cells p)) where
  found_item : (id : ℕ) → option_map roomless_row (row_with item_id rows id) ≡ cond (is_one cells id && p id) (item_copy id (at_id cells id) (at_id memories id)) None
  found_item id =
      sym (plain_found rows id) ∙ ap (λ rs. row_with item_id rs id) (are ∙ items_are cells memories (those cells p))
      ∙ found_copy item_id (λ id. item_copy id (at_id cells id) (at_id memories id)) (λ id r e. item_copy_id (at_id cells id) (at_id memories id) id r e) (those cells p) id
      ∙ ap (λ b. cond b (item_copy id (at_id cells id) (at_id memories id)) None) (has_those cells p id)

  pub items_rise : rises (map item_id rows) ≡ true
  items_rise =
      ap rises (sym (plain_ids rows) ∙ ap (map item_id) (are ∙ items_are cells memories (those cells p)))
      ∙ copies_rise item_id (λ id. item_copy id (at_id cells id) (at_id memories id)) (λ id r e. item_copy_id (at_id cells id) (at_id memories id) id r e) (those cells p) (rises_those p 1 cells)

  plain_cell : (o : Option ItemRow) → option_map (λ (r : ItemRow). roomless r.cell) o ≡ option_map item_cell (option_map roomless_row o)
  plain_cell None = refl
  plain_cell (Some r) = refl

  plain_marks : (o : Option ItemRow) → option_map item_marks o ≡ option_map item_marks (option_map roomless_row o)
  plain_marks None = refl
  plain_marks (Some r) = refl

  module _ (size : length cells ≡ length memories) (id : ℕ) where
    cell_there : (b c : Bool) → is_one cells id ≡ b → p id ≡ c → (o : Option CellView) → at_id cells id ≡ o → (m : Option (List StepMemory)) → at_id memories id ≡ m → option_map item_cell (cond (b && c) (item_copy id o m) None) ≡ cond c o None
    cell_there false c e f o q m w = let n : o ≡ None = sym q ∙ gone cells id e in sym (ap (λ x. cond c x None) n ∙ cond_none c)
    cell_there true false e f o q m w = refl
    cell_there true true e f None q m w = refl
    cell_there true true e f (Some cell) q None w = let n : at_id cells id ≡ None = none_same memories cells id (sym size) w in cc
    cell_there true true e f (Some cell) q (Some marks) w = refl

    marks_there : (b c : Bool) → is_one cells id ≡ b → p id ≡ c → (o : Option CellView) → at_id cells id ≡ o → (m : Option (List StepMemory)) → at_id memories id ≡ m → option_map item_marks (cond (b && c) (item_copy id o m) None) ≡ cond c m None
    marks_there false c e f o q m w = let n : m ≡ None = sym w ∙ none_same cells memories id size (gone cells id e) in sym (ap (λ x. cond c x None) n ∙ cond_none c)
    marks_there true false e f o q m w = refl
    marks_there true true e f None q None w = refl
    marks_there true true e f None q (Some marks) w = let n : at_id memories id ≡ None = none_same cells memories id size q in cc
    marks_there true true e f (Some cell) q None w = refl
    marks_there true true e f (Some cell) q (Some marks) w = refl

    pub item_cells_are : option_map (λ (r : ItemRow). roomless r.cell) (row_with item_id rows id) ≡ cond (p id) (at_id cells id) None
    item_cells_are = plain_cell (row_with item_id rows id) ∙ ap (option_map item_cell) (found_item id) ∙ cell_there (is_one cells id) (p id) refl refl (at_id cells id) refl (at_id memories id) refl

    pub item_marks_are : option_map item_marks (row_with item_id rows id) ≡ cond (p id) (at_id memories id) None
    item_marks_are = plain_marks (row_with item_id rows id) ∙ ap (option_map item_marks) (found_item id) ∙ marks_there (is_one cells id) (p id) refl refl (at_id cells id) refl (at_id memories id) refl

module _ (problems : List (List Open)) (p : ℕ → Bool) (rows : List TriggerRow) (are : rows ≡ trigger_copies problems (those problems p)) where
  pub triggers_rise : rises (map trigger_id rows) ≡ true
  triggers_rise =
      ap (λ rs. rises (map trigger_id rs)) (are ∙ triggers_are problems (those problems p))
      ∙ copies_rise trigger_id (λ id. trigger_copy id (at_id problems id)) (λ id r e. trigger_copy_id (at_id problems id) id r e) (those problems p) (rises_those p 1 problems)

  there : (id : ℕ) (b c : Bool) → is_one problems id ≡ b → (o : Option (List Open)) → at_id problems id ≡ o → option_map trigger_problems (cond (b && c) (trigger_copy id o) None) ≡ cond c o None
  there id false c e o q = let n : o ≡ None = sym q ∙ gone problems id e in sym (ap (λ x. cond c x None) n ∙ cond_none c)
  there id true false e o q = refl
  there id true true e None q = refl
  there id true true e (Some os) q = refl

  pub trigger_problems_are : (id : ℕ) → option_map trigger_problems (row_with trigger_id rows id) ≡ cond (p id) (at_id problems id) None
  trigger_problems_are id =
      ap (λ rs. option_map trigger_problems (row_with trigger_id rs id)) (are ∙ triggers_are problems (those problems p))
      ∙ ap (option_map trigger_problems) (found_copy trigger_id (λ id. trigger_copy id (at_id problems id)) (λ id r e. trigger_copy_id (at_id problems id) id r e) (those problems p) id
      ∙ ap (λ b. cond b (trigger_copy id (at_id problems id)) None) (has_those problems p id))
      ∙ there id (is_one problems id) (p id) refl (at_id problems id) refl

pub items_done : (start cells : List CellView) (memory memories : List (List StepMemory)) (first rows : List ItemRow) (k : ℕ) → length rows ≤ k → take k rows ++ items_taken cells memories (drop k rows) ≡ items_taken start memory first → rows ≡ items_taken start memory first
items_done start cells memory memories first rows k past so_far =
    sym (append-nil rows) ∙ ap (λ xs. xs ++ []) (sym (take_all k rows past)) ∙ ap (λ xs. take k rows ++ items_taken cells memories xs) (sym (drop_all k rows past)) ∙ so_far

pub triggers_done : (start problems : List (List Open)) (first rows : List TriggerRow) (k : ℕ) → length rows ≤ k → take k rows ++ triggers_taken problems (drop k rows) ≡ triggers_taken start first → rows ≡ triggers_taken start first
triggers_done start problems first rows k past so_far =
    sym (append-nil rows) ∙ ap (λ xs. xs ++ []) (sym (take_all k rows past)) ∙ ap (λ xs. take k rows ++ triggers_taken problems xs) (sym (drop_all k rows past)) ∙ so_far
