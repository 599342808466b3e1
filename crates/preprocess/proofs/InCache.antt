-- Cells whose tokens are of one vector.
use Rattle.std.proofs.Common.{◌≡◌, ◌∙◌, ◌<◌, ◌+◌, ◌-◌, ◌==◌, ℕ, length, drop, append_assoc, get_or, List, [], ◌∷◌, ◌++◌, Result, IfOk, map, set, Bool, true, false, cond, slice_get, Option, Some, None, is_some, true≢false, refl, sym, ap, subst}
use Rattle.std.proofs.lemmas.List.Elements.{All-map, All-append, All-set, All-nil, All-cons, All-head, All-tail}
use Rattle.std.proofs.lemmas.List.{map-append, drop_more}
use Rattle.std.proofs.lemmas.Option.{slice_get_within, get_or_from_slice_get}
use Rattle.std.specs.Option.{unwrap_or}
use Rattle.zbx_types.specs.Ids.{at_id}
use Rattle.value_cache.specs.Cells.{CellView, IsIn}
use Rattle.value_cache.specs.Tokens.{CacheId}
use Rattle.preprocess.specs.Draft.{AreIn, roomless}
use Rattle.preprocess.specs.Rows.{with_row}

-- the room of cells doesn't matter
pub to_roomless : (cache : CacheId) (cells : List CellView) → AreIn cache cells → AreIn cache (map roomless cells)
to_roomless cache cells h = All-map (IsIn cache) roomless cells h

pub of_roomless : (cache : CacheId) (cells : List CellView) → AreIn cache (map roomless cells) → AreIn cache cells
of_roomless cache [] h = All-nil (IsIn cache)
of_roomless cache (x ∷ xs) h =
    All-cons (IsIn cache) x xs (All-head (IsIn cache) (roomless x) (map roomless xs) h) (of_roomless cache xs (All-tail (IsIn cache) (roomless x) (map roomless xs) h))

pub in_same : (cache : CacheId) (one other : List CellView) → map roomless one ≡ map roomless other → AreIn cache other → AreIn cache one
in_same cache one other e h = of_roomless cache one (subst (AreIn cache) (sym e) (to_roomless cache other h))

-- one cell that is another
pub in_set : (cache : CacheId) (cells : List CellView) (i : ℕ) (cell : CellView) → AreIn cache cells → IsIn cache cell → AreIn cache (set cells i cell)
in_set cache cells i cell h k = All-set (IsIn cache) cells i cell k h

in_with : (cache : CacheId) (cells : List CellView) (id : ℕ) (cell : CellView) → AreIn cache cells → IsIn cache cell → AreIn cache (with_row cells id cell)
unfolding with_row
in_with cache cells id cell h k = go (id == 0)
  where
    go : (b : Bool) → AreIn cache (cond b cells (set cells (id - 1) cell))
    go true = h
    go false = in_set cache cells (id - 1) cell h k

pub in_exchanged : (cache : CacheId) (cells after : List CellView) (id : ℕ) (cell : CellView) → after ≡ with_row cells id cell → AreIn cache cells → IsIn cache cell → AreIn cache after
in_exchanged cache cells after id cell e h k = subst (AreIn cache) (sym e) (in_with cache cells id cell h k)

in_got : (cache : CacheId) (cells : List CellView) (i : ℕ) (cell : CellView) (o : Option CellView) → slice_get cells i ≡ o → AreIn cache cells → IsIn cache cell → IsIn cache (unwrap_or o cell)
in_got cache cells i cell None e h k = k
in_got cache cells i cell (Some x) e h k = subst (IsIn cache) (get_or_from_slice_get cells i x cell e) (h i cell (slice_get_within cells i x e))

pub in_taken : (cache : CacheId) (cells : List CellView) (id : ℕ) (cell taken : CellView) → taken ≡ unwrap_or (at_id cells id) cell → AreIn cache cells → IsIn cache cell → IsIn cache taken
unfolding at_id
in_taken cache cells id cell taken e h k = subst (IsIn cache) (sym e) (go (id == 0))
  where
    go : (b : Bool) → IsIn cache (unwrap_or (cond b None (slice_get cells (id - 1))) cell)
    go true = k
    go false = in_got cache cells (id - 1) cell (slice_get cells (id - 1)) refl h k

pub in_at : (cache : CacheId) (cells : List CellView) (i : ℕ) (cell : CellView) → i < length cells → cell ≡ get_or cells i cell → AreIn cache cells → IsIn cache cell
in_at cache cells i cell l e h = subst (IsIn cache) (sym e) (h i cell l)

-- the cell that a look-up found
pub in_found : (cache : CacheId) (cells : List CellView) (id : ℕ) (cell : CellView) → at_id cells id ≡ Some cell → AreIn cache cells → IsIn cache cell
unfolding at_id
in_found cache cells id cell e h = go (id == 0) e
  where
    go : (b : Bool) → cond b None (slice_get cells (id - 1)) ≡ Some cell → IsIn cache cell
    go true q = absurd (true≢false (sym (ap is_some q)))
    go false q = subst (IsIn cache) (get_or_from_slice_get cells (id - 1) cell cell q) (h (id - 1) cell (slice_get_within cells (id - 1) cell q))

-- one more cell
pub in_more : (cache : CacheId) (cells after : List CellView) (cell : CellView) → after ≡ cells ++ cell ∷ [] → AreIn cache cells → IsIn cache cell → AreIn cache after
in_more cache cells after cell e h k = subst (AreIn cache) (sym e) (All-append (IsIn cache) cells (cell ∷ []) h (All-cons (IsIn cache) cell [] k (All-nil (IsIn cache))))

-- what is made of some cells, by another name for them
pub in_made : {T E : Type 0} (items_of : T → List CellView) (cells slice : List CellView) (r : Result T E) → slice ≡ cells → IfOk r (λ made. (cache : CacheId) → AreIn cache slice → AreIn cache (items_of made))
    → IfOk r (λ made. (cache : CacheId) → AreIn cache cells → AreIn cache (items_of made))
in_made {T} {E} items_of cells slice r e h = subst (λ xs. IfOk r (λ made. (cache : CacheId) → AreIn cache xs → AreIn cache (items_of made))) e h

-- one more of some rows, of which the others are still to come
pub rows_on : {A B C : Type 0} (f : A → B) (g : C → B) (made next : List A) (all : List C) (p : ℕ) (x : A) (d : C) → p < length all → next ≡ made ++ x ∷ [] → f x ≡ g (get_or all p d)
    → map f made ++ map g (drop p all) ≡ map g all → map f next ++ map g (drop (p + 1) all) ≡ map g all
rows_on f g made next all p x d l e q is =
    ap (λ xs. map f xs ++ map g (drop (p + 1) all)) e
    ∙ ap (λ ys. ys ++ map g (drop (p + 1) all)) (map-append f made (x ∷ []))
    ∙ append_assoc (map f made) (f x ∷ []) (map g (drop (p + 1) all))
    ∙ ap (λ y. map f made ++ y ∷ map g (drop (p + 1) all)) q
    ∙ ap (λ ys. map f made ++ map g ys) (sym (drop_more all p d l)) ∙ is

pub plain_on : {A B : Type 0} (f : A → B) (made next : List A) (all : List B) (p : ℕ) (x : A) (d : B) → p < length all → next ≡ made ++ x ∷ [] → f x ≡ get_or all p d
    → map f made ++ drop p all ≡ all → map f next ++ drop (p + 1) all ≡ all
plain_on f made next all p x d l e q is =
    ap (λ xs. map f xs ++ drop (p + 1) all) e
    ∙ ap (λ ys. ys ++ drop (p + 1) all) (map-append f made (x ∷ []))
    ∙ append_assoc (map f made) (f x ∷ []) (drop (p + 1) all)
    ∙ ap (λ y. map f made ++ y ∷ drop (p + 1) all) q
    ∙ ap (λ ys. map f made ++ ys) (sym (drop_more all p d l)) ∙ is
