-- Cells by ids, with room and values that come in.
use Rattle.std.proofs.Common.{◌≡◌, ◌≢◌, ◌≤◌, ◌<◌, ◌-◌, ◌==◌, ℕ, zero, suc, List, [], ◌∷◌, length, map, get_or, set, take, drop, ◌++◌, ◌+◌, append_assoc, slice_get, cond, Bool, true, false, true≢false, Option, Some, None, IfSome, option_map, refl, ap, sym, ◌∙◌, subst, arith, eq-eqb, eqb-true}
use Rattle.std.proofs.lemmas.List.{set_past, drop_more, map-append}
use Rattle.std.proofs.lemmas.Option.{get_or_from_slice_get}
use Rattle.zbx_types.specs.Ids.{at_id}
use Rattle.zbx_types.specs.declared.entries.Stored.{Stored}
use Rattle.prep_steps.specs.declared.memory.StepMemory.{StepMemory}
use Rattle.value_cache.specs.Cells.{CellView, IsExact, IsSame, trim}
use Rattle.value_cache.specs.declared.keeping.Keep.{Keep}
use Rattle.preprocess.specs.Cells.{empty}
use Rattle.preprocess.specs.Draft.{Kept, kept_of, roomless, kept_with, kept_after, marks_after, stored_by, visit_at, HasRoom, HaveRoom, IsOther}
use Rattle.preprocess.specs.Putting.{kept_row, kept_put}
use Rattle.preprocess.specs.Rows.{with_row}
use Rattle.preprocess.specs.declared.visit.Visit.{Visit}
use Rattle.zbx_types.proofs.RowLemmas.{at_zero, at_suc}
use Rattle.preprocess.proofs.Rows.{there, row_same, row_other, with_suc, with_zero}

-- ---- one cell that is another

map_set : {A B : Type 0} (f : A → B) (xs : List A) (i : ℕ) (x : A) → map f (set xs i x) ≡ set (map f xs) i (f x)
map_set f [] i x = refl
map_set f (y ∷ xs) zero x = refl
map_set f (y ∷ xs) (suc i) x = ap (λ ys. f y ∷ ys) (map_set f xs i x)

count_map : {A B : Type 0} (f : A → B) (xs : List A) → length (map f xs) ≡ length xs
count_map f [] = refl
count_map f (x ∷ xs) = ap suc (count_map f xs)

pub map_get : {A B : Type 0} (f : A → B) (xs : List A) (i : ℕ) → slice_get (map f xs) i ≡ option_map f (slice_get xs i)
map_get f [] i = refl
map_get f (x ∷ xs) zero = refl
map_get f (x ∷ xs) (suc i) = map_get f xs i

set_own : {A : Type 0} (xs : List A) (i : ℕ) (x : A) → slice_get xs i ≡ Some x → set xs i x ≡ xs
set_own [] i x e = refl
set_own (y ∷ xs) zero x e = let s : y ≡ x = cc in ap (λ z. z ∷ xs) (sym s)
set_own (y ∷ xs) (suc i) x e = ap (λ zs. y ∷ zs) (set_own xs i x e)

-- the cells are the same but for their room
pub roomless_set : (cells : List CellView) (i : ℕ) (cell : CellView) → i < length cells → IsSame cell (get_or cells i cell) → map roomless (set cells i cell) ≡ map roomless cells
roomless_set cells i cell l e =
    let t = there cells i l in
    let g : get_or cells i cell ≡ t.0 = get_or_from_slice_get cells i t.0 cell t.1 in
    map_set roomless cells i cell ∙ ap (set (map roomless cells) i) (same_roomless cell (get_or cells i cell) e ∙ ap roomless g)
    ∙ set_own (map roomless cells) i (roomless t.0) (map_get roomless cells i ∙ ap (option_map roomless) t.1)
  where
    same_roomless : (one other : CellView) → IsSame one other → roomless one ≡ roomless other
    same_roomless one other e =
        ap (λ k. record { keep = k; values = one.values; tokens = one.tokens; room = 0 }) e.0
        ∙ ap (λ vs. record { keep = other.keep; values = vs; tokens = one.tokens; room = 0 }) e.1
        ∙ ap (λ ts. record { keep = other.keep; values = other.values; tokens = ts; room = 0 }) e.2

kept_roomless : (cells : List CellView) → map kept_of (map roomless cells) ≡ map kept_of cells
kept_roomless [] = refl
kept_roomless (x ∷ xs) = ap (λ ks. kept_of x ∷ ks) (kept_roomless xs)

pub same_kept : (one other : List CellView) → map roomless one ≡ map roomless other → map kept_of one ≡ map kept_of other
same_kept one other e = sym (kept_roomless one) ∙ ap (map kept_of) e ∙ kept_roomless other

with_index : {A : Type 0} (rows : List A) (id : ℕ) (row : A) → id ≢ 0 → set rows (id - 1) row ≡ with_row rows id row
with_index rows zero row ne = absurd (ne refl)
with_index rows (suc k) row ne = let m : suc k - 1 ≡ k = omega arith in ap (λ i. set rows i row) m ∙ sym (with_suc rows k row)

-- ---- room

room_of : (cells : List CellView) (id : ℕ) (o : Option CellView) → at_id cells id ≡ o → IfSome o (λ cell. 0 < cell.room) → HasRoom cells id
room_of cells id o e h = subst (λ x. IfSome x (λ cell. 0 < cell.room)) (sym e) h

pub room_none : (cells : List CellView) (id : ℕ) → id ≡ 0 → HasRoom cells id
room_none cells id e = room_of cells id None (ap (at_id cells) e ∙ at_zero cells) tt

past : {A : Type 0} (xs : List A) (i : ℕ) → length xs ≤ i → slice_get xs i ≡ None
past [] i l = refl
past (x ∷ xs) zero l = absurd (omega (arith, l))
past (x ∷ xs) (suc i) l = past xs i (omega (arith, l))

at_past : {A : Type 0} (xs : List A) (id : ℕ) → id ≢ 0 → length xs ≤ id - 1 → at_id xs id ≡ None
at_past xs zero ne l = absurd (ne refl)
at_past xs (suc k) ne l = at_suc xs k ∙ past xs k (omega (arith, l))

pub room_past : (cells : List CellView) (id : ℕ) → id ≢ 0 → length cells ≤ id - 1 → HasRoom cells id
room_past cells id ne l = room_of cells id None (at_past cells id ne l) tt

own_room : (cell : CellView) → 0 < cell.room → (o : Option CellView) → IfSome (option_map (λ _. cell) o) (λ c. 0 < c.room)
own_room cell r None = tt
own_room cell r (Some c) = r

pub room_own : (cells : List CellView) (id : ℕ) (cell : CellView) → id ≢ 0 → 0 < cell.room → HasRoom (set cells (id - 1) cell) id
room_own cells id cell ne r =
    subst (λ rows. HasRoom rows id) (sym (with_index cells id cell ne)) (room_of (with_row cells id cell) id (option_map (λ _. cell) (at_id cells id)) (row_same cells id cell) (own_room cell r (at_id cells id)))

pub room_apart : (cells : List CellView) (id other : ℕ) (cell : CellView) → id ≢ 0 → other ≢ id → HasRoom cells other → HasRoom (set cells (id - 1) cell) other
room_apart cells id other cell ne apart h =
    subst (λ rows. HasRoom rows other) (sym (with_index cells id cell ne)) (room_of (with_row cells id cell) other (at_id cells other) (row_other cells id other cell (λ e. apart (sym e))) h)

pub room_other : (cells : List CellView) (id other : ℕ) (cell : CellView) → id ≢ 0 → 0 < cell.room → HasRoom cells other → HasRoom (set cells (id - 1) cell) other
room_other cells id other cell ne r h = go (other == id) refl
  where
    go : (b : Bool) → (other == id) ≡ b → HasRoom (set cells (id - 1) cell) other
    go true e = subst (λ i. HasRoom (set cells (id - 1) cell) i) (sym (eqb-true other id e)) (room_own cells id cell ne r)
    go false e = room_apart cells id other cell ne (λ same. let t : (other == id) ≡ true = eq-eqb other id same in true≢false (sym t ∙ e)) h

pub room_at : (cells : List CellView) (id : ℕ) (cell : CellView) → HasRoom cells id → id ≢ 0 → id - 1 < length cells → cell ≡ get_or cells (id - 1) cell → 0 < cell.room
room_at cells zero cell h ne l is = absurd (ne refl)
room_at cells (suc k) cell h ne l is =
    let m : suc k - 1 ≡ k = omega arith in
    let t = there cells k (omega (arith, l)) in
    let g : get_or cells (suc k - 1) cell ≡ t.0 = ap (λ i. get_or cells i cell) m ∙ get_or_from_slice_get cells k t.0 cell t.1 in
    subst (λ (c : CellView). 0 < c.room) (sym (is ∙ g)) (subst (λ o. IfSome o (λ c. 0 < c.room)) (at_suc cells k ∙ t.1) h)

-- a cell that is new
take_none : {A : Type 0} (n : ℕ) → take {A = A} n [] ≡ []
take_none zero = refl
take_none (suc n) = refl

trim_none : (keep : Keep) (now : ℕ) → trim keep now [] ≡ []
unfolding trim
trim_none keep now = take_none keep.count

pub new_cell : (cell : CellView) (keep : Keep) → cell.keep ≡ keep → IsExact cell 0 [] → kept_of cell ≡ empty keep
new_cell cell keep is exact = ap (λ k. record { keep = k; values = cell.values }) is ∙ ap (λ v. record { keep = keep; values = v }) (exact.values ∙ trim_none cell.keep 0)

-- one more of such cells
pub cells_on : (keeps : List Keep) (cells after : List CellView) (i : ℕ) (keep d : Keep) (cell : CellView) → i < length keeps → keep ≡ get_or keeps i d
    → cell.keep ≡ keep → IsExact cell 0 [] → after ≡ cells ++ cell ∷ [] → map kept_of cells ++ map empty (drop i keeps) ≡ map empty keeps
    → map kept_of after ++ map empty (drop (i + 1) keeps) ≡ map empty keeps
cells_on keeps cells after i keep d cell l at is exact e was =
    ap (λ cs. map kept_of cs ++ rest) e
    ∙ ap (λ x. x ++ rest) (map-append kept_of cells (cell ∷ []))
    ∙ append_assoc (map kept_of cells) (kept_of cell ∷ []) rest
    ∙ ap (λ k. map kept_of cells ++ k ∷ rest) (new_cell cell keep is exact)
    ∙ ap (λ (ks : List Keep). map kept_of cells ++ map empty ks) (sym parts)
    ∙ was
  where
    rest : List Kept
    rest = map empty (drop (i + 1) keeps)

    parts : drop i keeps ≡ keep ∷ drop (i + 1) keeps
    parts = drop_more keeps i d l ∙ ap (λ (x : Keep). x ∷ drop (i + 1) keeps) (sym at)

pub empty_list : {A : Type 0} (xs : List A) → length xs ≡ 0 → xs ≡ []
empty_list [] e = refl
empty_list (x ∷ xs) e = absurd (omega (arith, e))

-- ---- a value that comes in

row_by : (now : ℕ) (stored : Stored) (id : ℕ) (rows : List Kept) (o : Option Kept) → at_id rows id ≡ o → kept_put now (Some stored) id rows ≡ kept_row now stored id rows o
row_by now stored id rows o e = ap (kept_row now stored id rows) e

pub put_none : (now : ℕ) (stored : Stored) (id : ℕ) (rows : List Kept) → id ≡ 0 → rows ≡ kept_put now (Some stored) id rows
put_none now stored id rows e = sym (row_by now stored id rows None (ap (at_id rows) e ∙ at_zero rows))

pub put_past : (now : ℕ) (stored : Stored) (id : ℕ) (cells : List CellView) → id ≢ 0 → length cells ≤ id - 1 → map kept_of cells ≡ kept_put now (Some stored) id (map kept_of cells)
put_past now stored id cells ne l = sym (row_by now stored id (map kept_of cells) None (at_past (map kept_of cells) id ne (subst (λ n. n ≤ id - 1) (sym (count_map kept_of cells)) l)))

pub put_kept : (now : ℕ) (stored : Stored) (id : ℕ) (cells : List CellView) (cell : CellView) → id ≢ 0 → id - 1 < length cells
    → kept_of cell ≡ kept_with now (Some stored) (kept_of (get_or cells (id - 1) cell)) → map kept_of (set cells (id - 1) cell) ≡ kept_put now (Some stored) id (map kept_of cells)
put_kept now stored zero cells cell ne l e = absurd (ne refl)
put_kept now stored (suc k) cells cell ne l e =
    let m : suc k - 1 ≡ k = omega arith in
    let t = there cells k (omega (arith, l)) in
    let g : get_or cells (suc k - 1) cell ≡ t.0 = ap (λ i. get_or cells i cell) m ∙ get_or_from_slice_get cells k t.0 cell t.1 in
    let at : at_id (map kept_of cells) (suc k) ≡ Some (kept_of t.0) = at_suc (map kept_of cells) k ∙ map_get kept_of cells k ∙ ap (option_map kept_of) t.1 in
    map_set kept_of cells (suc k - 1) cell
    ∙ with_index (map kept_of cells) (suc k) (kept_of cell) ne
    ∙ ap (with_row (map kept_of cells) (suc k)) (e ∙ ap (λ c. kept_with now (Some stored) (kept_of c)) g)
    ∙ sym (row_by now stored (suc k) (map kept_of cells) (Some (kept_of t.0)) at)

pub marks_past : {A : Type 0} (rows : List A) (id : ℕ) (row : A) → id ≢ 0 → length rows ≤ id - 1 → rows ≡ with_row rows id row
marks_past rows id row ne l = sym (sym (with_index rows id row ne) ∙ set_past rows (id - 1) row l)

pub marks_none : {A : Type 0} (rows : List A) (id : ℕ) (row : A) → id ≡ 0 → rows ≡ with_row rows id row
marks_none rows id row e = sym (ap (λ i. with_row rows i row) e ∙ with_zero rows row)

pub marks_set : {A : Type 0} (rows : List A) (id : ℕ) (row : A) → id ≢ 0 → set rows (id - 1) row ≡ with_row rows id row
marks_set rows id row ne = with_index rows id row ne

-- ---- one visit after the other

pub other_visit : (id : ℕ) (v : Visit) (visits : List Visit) → v.item ≢ id → visit_at (v ∷ visits) id ≡ visit_at visits id
other_visit id v visits ne = go (v.item == id) refl
  where
    go : (b : Bool) → (v.item == id) ≡ b → cond b (Some v) (visit_at visits id) ≡ visit_at visits id
    go true e = absurd (ne (eqb-true v.item id e))
    go false e = refl

own_visit : (id : ℕ) (v : Visit) (visits : List Visit) → v.item ≡ id → visit_at (v ∷ visits) id ≡ Some v
own_visit id v visits e = ap (λ b. cond b (Some v) (visit_at visits id)) (eq-eqb v.item id e)

no_visit : (id : ℕ) (visits : List Visit) → IsOther id visits → visit_at visits id ≡ None
no_visit id [] all = refl
no_visit id (v ∷ visits) all = other_visit id v visits all.0 ∙ no_visit id visits all.1

same_map : {A : Type 0} (f : A → A) → ((a : A) → f a ≡ a) → (o : Option A) → option_map f o ≡ o
same_map f h None = refl
same_map f h (Some a) = ap (λ x. Some x) (h a)

put_own : (now : ℕ) (stored : Option Stored) (id : ℕ) (rows : List Kept) → at_id (kept_put now stored id rows) id ≡ option_map (kept_with now stored) (at_id rows id)
put_own now None id rows = sym (same_map (kept_with now None) (λ k. refl) (at_id rows id))
put_own now (Some s) id rows = go (at_id rows id) refl
  where
    go : (o : Option Kept) → at_id rows id ≡ o → at_id (kept_row now s id rows o) id ≡ option_map (kept_with now (Some s)) o
    go None e = e
    go (Some k) e = row_same rows id (kept_with now (Some s) k) ∙ ap (option_map (λ _. kept_with now (Some s) k)) e

put_other : (now : ℕ) (stored : Option Stored) (id other : ℕ) (rows : List Kept) → id ≢ other → at_id (kept_put now stored id rows) other ≡ at_id rows other
put_other now None id other rows ne = refl
put_other now (Some s) id other rows ne = go (at_id rows id)
  where
    go : (o : Option Kept) → at_id (kept_row now s id rows o) other ≡ at_id rows other
    go None = refl
    go (Some k) = row_other rows id other (kept_with now (Some s) k) ne

-- what is to come after a visit, and before it
pub kept_on : (now : ℕ) (v : Visit) (rest : List Visit) (rows after : List Kept) → after ≡ kept_put now (stored_by v.outcome) v.item rows → IsOther v.item rest
    → (id : ℕ) → option_map (kept_after now (visit_at rest id)) (at_id after id) ≡ option_map (kept_after now (visit_at (v ∷ rest) id)) (at_id rows id)
kept_on now v rest rows after is others id = go (v.item == id) refl
  where
    go : (b : Bool) → (v.item == id) ≡ b → option_map (kept_after now (visit_at rest id)) (at_id after id) ≡ option_map (kept_after now (visit_at (v ∷ rest) id)) (at_id rows id)
    go true e =
        let s : v.item ≡ id = eqb-true v.item id e in
        ap (λ o. option_map (kept_after now o) (at_id after id)) (no_visit id rest (subst (λ i. IsOther i rest) s others))
        ∙ same_map (kept_after now None) (λ k. refl) (at_id after id)
        ∙ ap (λ x. at_id x id) (is ∙ ap (λ i. kept_put now (stored_by v.outcome) i rows) s)
        ∙ put_own now (stored_by v.outcome) id rows
        ∙ sym (ap (λ o. option_map (kept_after now o) (at_id rows id)) (own_visit id v rest s))
    go false e =
        let ne : v.item ≢ id = λ s. true≢false (sym (eq-eqb v.item id s) ∙ e) in
        ap (option_map (kept_after now (visit_at rest id))) (ap (λ x. at_id x id) is ∙ put_other now (stored_by v.outcome) v.item id rows ne)
        ∙ sym (ap (λ o. option_map (kept_after now o) (at_id rows id)) (other_visit id v rest ne))

pub marks_on : (v : Visit) (rest : List Visit) (rows after : List (List StepMemory)) → after ≡ with_row rows v.item v.marks → IsOther v.item rest
    → (id : ℕ) → option_map (marks_after (visit_at rest id)) (at_id after id) ≡ option_map (marks_after (visit_at (v ∷ rest) id)) (at_id rows id)
marks_on v rest rows after is others id = go (v.item == id) refl
  where
    go : (b : Bool) → (v.item == id) ≡ b → option_map (marks_after (visit_at rest id)) (at_id after id) ≡ option_map (marks_after (visit_at (v ∷ rest) id)) (at_id rows id)
    go true e =
        let s : v.item ≡ id = eqb-true v.item id e in
        ap (λ o. option_map (marks_after o) (at_id after id)) (no_visit id rest (subst (λ i. IsOther i rest) s others))
        ∙ same_map (marks_after None) (λ k. refl) (at_id after id)
        ∙ ap (λ x. at_id x id) (is ∙ ap (λ i. with_row rows i v.marks) s)
        ∙ row_same rows id v.marks
        ∙ sym (ap (λ o. option_map (marks_after o) (at_id rows id)) (own_visit id v rest s))
    go false e =
        let ne : v.item ≢ id = λ s. true≢false (sym (eq-eqb v.item id s) ∙ e) in
        ap (option_map (marks_after (visit_at rest id))) (ap (λ x. at_id x id) is ∙ row_other rows v.item id v.marks ne)
        ∙ sym (ap (λ o. option_map (marks_after o) (at_id rows id)) (other_visit id v rest ne))

pub room_on : (cells after : List CellView) (v : Visit) (rest : List Visit) → ((other : ℕ) → other ≢ v.item → HasRoom cells other → HasRoom after other)
    → IsOther v.item rest → HaveRoom cells rest → HaveRoom after rest
room_on cells after v [] h others all = tt
room_on cells after v (w ∷ rest) h others all = (h w.item others.0 all.0, room_on cells after v rest h others.1 all.1)

-- at the end nothing is to come
pub kept_end : (now : ℕ) (o : Option Kept) → option_map (kept_after now None) o ≡ o
kept_end now o = same_map (kept_after now None) (λ k. refl) o

pub marks_end : (o : Option (List StepMemory)) → option_map (marks_after None) o ≡ o
marks_end o = same_map (marks_after None) (λ k. refl) o
