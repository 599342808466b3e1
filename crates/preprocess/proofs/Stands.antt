-- What cells stand for behind a configuration that follows another one.
use Rattle.std.proofs.Common.{◌≡◌, ◌∙◌, ◌≤◌, ◌+◌, ℕ, zero, suc, List, [], ◌∷◌, map, Option, Some, None, option_map, refl, sym, ap, subst, arith}
use Rattle.std.specs.Option.{option_map_or, unwrap_or}
use Rattle.std.specs.Prelude.{option_and_then, slice_get}
use Rattle.zbx_types.specs.Ids.{at_id, ids_from}
use Rattle.zbx_types.specs.declared.conf.Conf.{Conf}
use Rattle.zbx_types.specs.declared.entries.Stored.{Stored}
use Rattle.zbx_types.specs.declared.items.Item.{Item}
use Rattle.zbx_types.proofs.RowLemmas.{at_zero, at_suc}
use Rattle.value_cache.specs.Cells.{CellView, IsCellOf, trim}
use Rattle.value_cache.specs.Histories.{IsOrdered}
use Rattle.value_cache.specs.Keeps.{keep_of}
use Rattle.value_cache.proofs.Pruning.{ordered_trim}
use Rattle.preprocess.specs.Carry.{carried_history, carried_for, carried_values, carried_along, steps_of, still_kept, old_item}
use Rattle.preprocess.specs.Cells.{no_marks}
use Rattle.preprocess.specs.Chains.{listed}
use Rattle.preprocess.specs.Standing.{StandFor, CarriedStand, CarriedRemember}
use Rattle.preprocess.proofs.GoingOn.{empty_trim}

get_made : {A B : Type 0} (f : A → B) (xs : List A) (k : ℕ) → slice_get (map f xs) k ≡ option_map f (slice_get xs k)
get_made f [] k = refl
get_made f (x ∷ xs) zero = refl
get_made f (x ∷ xs) (suc k) = get_made f xs k

-- the item with an id of what is made of each
pub at_made : {A B : Type 0} (f : A → B) (xs : List A) (id : ℕ) → at_id (map f xs) id ≡ option_map f (at_id xs id)
at_made f xs zero = at_zero (map f xs) ∙ ap (option_map f) (sym (at_zero xs))
at_made f xs (suc k) = at_suc (map f xs) k ∙ get_made f xs k ∙ ap (option_map f) (sym (at_suc xs k))

get_ids : {A : Type 0} (from : ℕ) (xs : List A) (k : ℕ) → slice_get (ids_from from xs) k ≡ option_map (λ x. from + k) (slice_get xs k)
get_ids from [] k = refl
get_ids from (x ∷ xs) zero = ap Some (omega arith)
get_ids from (x ∷ xs) (suc k) = get_ids (from + 1) xs k ∙ go (slice_get xs k)
  where
    go : {A : Type 0} (o : Option A) → option_map (λ x. from + 1 + k) o ≡ option_map (λ x. from + suc k) o
    go None = refl
    go (Some x) = ap Some (omega arith)

-- the id with an id
at_ids : {A : Type 0} (xs : List A) (id : ℕ) → at_id (ids_from 1 xs) id ≡ option_map (λ x. id) (at_id xs id)
at_ids xs zero = at_zero (ids_from 1 xs) ∙ ap (option_map (λ x. 0)) (sym (at_zero xs))
at_ids xs (suc k) = at_suc (ids_from 1 xs) k ∙ get_ids 1 xs k ∙ go (slice_get xs k) ∙ ap (option_map (λ x. suc k)) (sym (at_suc xs k))
  where
    go : {A : Type 0} (o : Option A) → option_map (λ x. 1 + k) o ≡ option_map (λ x. suc k) o
    go None = refl
    go (Some x) = ap Some (omega arith)

same_some : {A : Type 0} (x y : A) → Some x ≡ Some y → x ≡ y
same_some x y e = cc

-- of two options of which the same is made both are there or none
none_back : {A B C : Type 0} (f : A → C) (g : B → C) (o : Option A) (p : Option B) → option_map f o ≡ option_map g p → o ≡ None → p ≡ None
none_back f g None None e n = refl
none_back f g None (Some y) e n = absurd (cc)
none_back f g (Some x) p e n = absurd (cc)

some_back : {A B C : Type 0} (f : A → C) (g : B → C) (o : Option A) (p : Option B) (x : A) → option_map f o ≡ option_map g p → o ≡ Some x
    → (y : B) × ((p ≡ Some y) × (f x ≡ g y))
some_back f g None p x e s = absurd (cc)
some_back f g (Some z) None x e s = absurd (cc)
some_back f g (Some z) (Some y) x e s = (y, (refl, ap f (sym (same_some z x s)) ∙ same_some (f z) (g y) e))

-- ---- values

-- what a cell is to keep is what is to be kept of the history that it stands for
kept_is : (old : Conf) (now : ℕ) (cells : List CellView) (seen : ℕ → ℕ) (histories : ℕ → List Stored) → StandFor old cells seen histories → ((id : ℕ) → seen id ≤ now)
    → (id : ℕ) → still_kept now (at_id cells id) ≡ trim (keep_of old id) now (histories id)
kept_is old now cells seen histories stand by id = go (at_id cells id) refl
  where
    go : (o : Option CellView) → at_id cells id ≡ o → still_kept now o ≡ trim (keep_of old id) now (histories id)
    go None e = sym (ap (trim (keep_of old id) now) (stand.absent id e) ∙ empty_trim (keep_of old id) now)
    go (Some cell) e =
        let is = stand.there id cell e in
        is.1.kept now (by id) ∙ ap (λ keep. trim keep now (histories id)) is.0

values_stand : (old : Conf) (now : ℕ) (cells : List CellView) (seen : ℕ → ℕ) (histories : ℕ → List Stored) → StandFor old cells seen histories → ((id : ℕ) → seen id ≤ now)
    → (o : Option ℕ) → still_kept now (option_and_then (at_id cells) o) ≡ option_map_or (λ before. trim (keep_of old before) now (histories before)) o []
values_stand old now cells seen histories stand by None = refl
values_stand old now cells seen histories stand by (Some id) = kept_is old now cells seen histories stand by id

kept_ordered : (old : Conf) (now : ℕ) (cells : List CellView) (seen : ℕ → ℕ) (histories : ℕ → List Stored) → StandFor old cells seen histories
    → (o : Option ℕ) → IsOrdered (option_map_or (λ before. trim (keep_of old before) now (histories before)) o [])
kept_ordered old now cells seen histories stand None = tt
kept_ordered old now cells seen histories stand (Some id) = go (at_id cells id) refl
  where
    go : (o : Option CellView) → at_id cells id ≡ o → IsOrdered (trim (keep_of old id) now (histories id))
    go None e = subst IsOrdered (sym (ap (trim (keep_of old id) now) (stand.absent id e) ∙ empty_trim (keep_of old id) now)) tt
    go (Some cell) e = ordered_trim (keep_of old id) now (histories id) (stand.there id cell e).1.ordered

pub carried_stand : CarriedStand
carried_stand old new now before after seen histories carried stand by = record { there = there; absent = absent }
  where
    from : Item → List Stored
    from item = option_map_or (λ b. trim (keep_of old b) now (histories b)) (old_item old new item) []

    made : (id : ℕ) → option_map (λ (c : CellView). c.values) (at_id after.cells.items id) ≡ option_map (carried_values old new now before.cells.items) (at_id new.items id)
    made id =
        sym (at_made (λ (c : CellView). c.values) after.cells.items id)
        ∙ ap (λ rows. at_id rows id) carried.values
        ∙ at_made (carried_values old new now before.cells.items) new.items id

    keeps : (id : ℕ) → option_map (λ (c : CellView). c.keep) (at_id after.cells.items id) ≡ option_map (keep_of new) (option_map (λ (x : Item). id) (at_id new.items id))
    keeps id =
        sym (at_made (λ (c : CellView). c.keep) after.cells.items id)
        ∙ ap (λ rows. at_id rows id) carried.keeps
        ∙ at_made (keep_of new) (ids_from 1 new.items) id
        ∙ ap (option_map (keep_of new)) (at_ids new.items id)

    one_keep : (id : ℕ) (cell : CellView) (o : Option Item) → Some cell.keep ≡ option_map (keep_of new) (option_map (λ (x : Item). id) o) → cell.keep ≡ keep_of new id
    one_keep id cell None e = absurd (cc)
    one_keep id cell (Some item) e = same_some cell.keep (keep_of new id) e

    there : (id : ℕ) (cell : CellView) → at_id after.cells.items id ≡ Some cell → (cell.keep ≡ keep_of new id) × IsCellOf cell now (carried_history old new now histories id)
    there id cell e =
        let t = some_back (λ (c : CellView). c.values) (carried_values old new now before.cells.items) (at_id after.cells.items id) (at_id new.items id) cell (made id) e in
        let is : cell.values ≡ from t.0 = t.1.1 ∙ values_stand old now before.cells.items seen histories stand by (old_item old new t.0) in
        let history : carried_history old new now histories id ≡ from t.0 =
        ap (λ o. option_map_or (λ b. trim (keep_of old b) now (histories b)) (option_and_then (old_item old new) o) []) t.1.0 in (
          one_keep id cell (at_id new.items id) (ap (option_map (λ (c : CellView). c.keep)) (sym e) ∙ keeps id),
          record {
            ordered = subst IsOrdered (sym history) (kept_ordered old now before.cells.items seen histories stand (old_item old new t.0));
            kept = λ later l. ap (trim cell.keep later) (is ∙ sym history);
          },
        )

    absent : (id : ℕ) → at_id after.cells.items id ≡ None → carried_history old new now histories id ≡ []
    absent id e =
        let n = none_back (λ (c : CellView). c.values) (carried_values old new now before.cells.items) (at_id after.cells.items id) (at_id new.items id) (made id) e in
        ap (λ o. option_map_or (λ b. trim (keep_of old b) now (histories b)) (option_and_then (old_item old new) o) []) n

-- ---- memories

pub carried_remember : CarriedRemember
carried_remember old new now before after marks carried same id =
    ap (λ rows. listed rows id) carried.memories
    ∙ ap (λ o. unwrap_or o []) (at_made (carried_for old new (listed before.memories.items)) new.items id)
    ∙ go (at_id new.items id)
  where
    one : (item : Item) (o : Option ℕ)
        → option_map_or (λ b. carried_along (steps_of old b) (listed before.memories.items b) item.steps) o (no_marks item) ≡ option_map_or (λ b. carried_along (steps_of old b) (marks b) item.steps) o (no_marks item)
    one item None = refl
    one item (Some b) = ap (λ ms. carried_along (steps_of old b) ms item.steps) (same b)

    go : (o : Option Item) → unwrap_or (option_map (carried_for old new (listed before.memories.items)) o) [] ≡ option_map_or (carried_for old new marks) o []
    go None = refl
    go (Some item) = one item (old_item old new item)
