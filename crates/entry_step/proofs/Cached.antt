-- Copies of cells whose values stand in one cache.
use Rattle.std.proofs.Common.{◌≡◌, ℕ, List, [], ◌∷◌, map, Option, Some, None, refl, sym, subst}
use Rattle.std.proofs.lemmas.List.Elements.{All-map, All-nil, All-cons, All-head, All-tail}
use Rattle.std.specs.List.{cons_option}
use Rattle.zbx_types.specs.Ids.{at_id}
use Rattle.prep_steps.specs.declared.memory.StepMemory.{StepMemory}
use Rattle.value_cache.specs.Cells.{CellView, IsIn}
use Rattle.value_cache.specs.Tokens.{CacheId}
use Rattle.preprocess.specs.Draft.{AreIn, roomless}
use Rattle.preprocess.specs.Rows.{with_row}
use Rattle.preprocess.proofs.InCache.{to_roomless, in_exchanged, in_taken, in_found}
use Rattle.entry_step.specs.Parts.{AreHeldIn}
use Rattle.entry_step.specs.Exchange.{roomless_row, item_copy, item_copies, put_all, item_taken, items_taken}
use Rattle.entry_step.specs.declared.parts.ItemRow.{ItemRow}
use Rattle.entry_step.proofs.Exchanging.{item_id, item_cell}

abbrev row_in : CacheId → ItemRow → Type 0
row_in cache row = IsIn cache row.cell

-- copies that come into their places
pub put_in : (cache : CacheId) (cells : List CellView) (rows : List ItemRow) → AreIn cache cells → AreHeldIn cache rows → AreIn cache (put_all item_id item_cell cells rows)
put_in cache cells [] h k = h
put_in cache cells (r ∷ rows) h k =
    put_in cache (with_row cells r.id r.cell) rows (in_exchanged cache cells (with_row cells r.id r.cell) r.id r.cell refl h (All-head (row_in cache) r rows k)) (All-tail (row_in cache) r rows k)

-- and what comes out of these
pub taken_in : (cache : CacheId) (cells : List CellView) (memories : List (List StepMemory)) (rows : List ItemRow) → AreIn cache cells → AreHeldIn cache rows → AreHeldIn cache (items_taken cells memories rows)
taken_in cache cells memories [] h k = All-nil (row_in cache)
taken_in cache cells memories (r ∷ rows) h k =
    let own : IsIn cache r.cell = All-head (row_in cache) r rows k in
    All-cons (row_in cache) (item_taken cells memories r) (items_taken (with_row cells r.id r.cell) (with_row memories r.id r.marks) rows)
    (in_taken cache cells r.id r.cell (item_taken cells memories r).cell refl h own)
    (taken_in cache (with_row cells r.id r.cell) (with_row memories r.id r.marks) rows (in_exchanged cache cells (with_row cells r.id r.cell) r.id r.cell refl h own) (All-tail (row_in cache) r rows k))

-- the room of copies doesn't matter
pub held_plain : (cache : CacheId) (rows : List ItemRow) → AreHeldIn cache (map roomless_row rows) → AreHeldIn cache rows
held_plain cache [] h = All-nil (row_in cache)
held_plain cache (r ∷ rows) h =
    All-cons (row_in cache) r rows (All-head (row_in cache) (roomless_row r) (map roomless_row rows) h) (held_plain cache rows (All-tail (row_in cache) (roomless_row r) (map roomless_row rows) h))

pub held_again : (cache : CacheId) (rows made : List ItemRow) → map roomless_row made ≡ map roomless_row rows → AreHeldIn cache rows → AreHeldIn cache made
held_again cache rows made e h = held_plain cache made (subst (AreHeldIn cache) (sym e) (All-map (row_in cache) roomless_row rows h))

-- copies of cells
more_in : (cache : CacheId) (cells : List CellView) (id : ℕ) (o : Option CellView) (m : Option (List StepMemory)) (rows : List ItemRow) → at_id cells id ≡ o → AreIn cache cells → AreHeldIn cache rows
    → AreHeldIn cache (cons_option (item_copy id o m) rows)
more_in cache cells id None m rows e h rest = rest
more_in cache cells id (Some cell) None rows e h rest = rest
more_in cache cells id (Some cell) (Some marks) rows e h rest = All-cons (row_in cache) (record { id = id; cell = cell; marks = marks }) rows (in_found cache cells id cell e h) rest

copies_in : (cache : CacheId) (cells : List CellView) (memories : List (List StepMemory)) (ids : List ℕ) → AreIn cache cells → AreHeldIn cache (item_copies cells memories ids)
copies_in cache cells memories [] h = All-nil (row_in cache)
copies_in cache cells memories (id ∷ ids) h = more_in cache cells id (at_id cells id) (at_id memories id) (item_copies cells memories ids) refl h (copies_in cache cells memories ids h)

pub held_copies : (cache : CacheId) (cells : List CellView) (memories : List (List StepMemory)) (ids : List ℕ) (rows : List ItemRow) → map roomless_row rows ≡ item_copies (map roomless cells) memories ids → AreIn cache cells → AreHeldIn cache rows
held_copies cache cells memories ids rows e h = held_plain cache rows (subst (AreHeldIn cache) (sym e) (copies_in cache (map roomless cells) memories ids (to_roomless cache cells h)))
