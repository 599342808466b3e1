-- The values of a base, taken in one after another.
use Rattle.std.proofs.Common.{◌≡◌, ◌<◌, ◌+◌, ℕ, zero, suc, List, [], ◌∷◌, ◌++◌, length, map, reverse, take, drop, get_or, slice_get, refl, sym, ◌∙◌, ap, subst, le_refl, take-append-drop, Some, None, option_map, arith}
use Rattle.std.proofs.lemmas.List.{take_more, map-append, reverse-append}
use Rattle.zbx_types.specs.Ids.{at_id, ids_from}
use Rattle.zbx_types.specs.declared.base.BaseValue.{BaseValue}
use Rattle.zbx_types.specs.declared.conf.Conf.{Conf}
use Rattle.zbx_types.specs.declared.entries.Stored.{Stored}
use Rattle.zbx_types.specs.declared.items.Item.{Item}
use Rattle.zbx_types.specs.declared.items.ValueType.{ValueType}
use Rattle.zbx_types.proofs.RowLemmas.{at_zero, at_suc}
use Rattle.value_cache.specs.Cells.{trim}
use Rattle.value_cache.specs.Histories.{placed, IsOrdered}
use Rattle.value_cache.specs.Keeps.{keep_of, keeps_of}
use Rattle.value_cache.specs.declared.keeping.Keep.{Keep}
use Rattle.value_cache.proofs.Pruning.{ordered_trim, trim_trim, stands_placed}
use Rattle.base_laws.specs.Bases.{read_value}

-- what is made of ids, in the order of the items that have them
ids_get : {A B : Type 0} (f : ℕ → B) (from : ℕ) (xs : List A) (k : ℕ) → slice_get (map f (ids_from from xs)) k ≡ option_map (λ x. f (k + from)) (slice_get xs k)
ids_get f from [] k = refl
ids_get f from (x ∷ xs) zero =
    let none : from ≡ zero + from = omega arith in ap (λ n. Some (f n)) none
ids_get f from (x ∷ xs) (suc k) =
    let next : k + (from + 1) ≡ suc k + from = omega arith in
    ids_get f (from + 1) xs k ∙ ap (λ n. option_map (λ y. f n) (slice_get xs k)) next

pub at_ids : {A B : Type 0} (f : ℕ → B) (xs : List A) (id : ℕ) → at_id (map f (ids_from 1 xs)) id ≡ option_map (λ x. f id) (at_id xs id)
at_ids f xs zero = rw (at_zero (map f (ids_from 1 xs)), at_zero xs) refl
at_ids f xs (suc k) =
    let next : k + 1 ≡ suc k = omega arith in
    rw (at_suc (map f (ids_from 1 xs)) k, at_suc xs k) (ids_get f 1 xs k ∙ ap (λ n. option_map (λ x. f n) (slice_get xs k)) next)

pub length_ids : {A : Type 0} (from : ℕ) (xs : List A) → length (ids_from from xs) ≡ length xs
length_ids from [] = refl
length_ids from (x ∷ xs) = ap suc (length_ids (from + 1) xs)

trim_none : (keep : Keep) (now : ℕ) → trim keep now [] ≡ []
unfolding trim
trim_none keep now = none keep.count
  where
    nothing : List Stored
    nothing = []

    none : (n : ℕ) → take n nothing ≡ nothing
    none zero = refl
    none (suc n) = refl

pub none_yet : (keep own : Keep) (now : ℕ) (values : List Stored) → values ≡ trim own 0 [] → values ≡ trim keep now []
none_yet keep own now values e = e ∙ trim_none own 0 ∙ sym (trim_none keep now)

ordered_back : (xs ys : List Stored) → IsOrdered (xs ++ ys) → IsOrdered ys
ordered_back [] ys o = o
ordered_back (x ∷ xs) ys o = ordered_back xs ys o.1

placed_first : (s : Stored) (h : List Stored) → IsOrdered (s ∷ h) → placed s h ≡ s ∷ h
placed_first s [] o = refl
placed_first s (x ∷ xs) o = rw (o.0).0 refl

module _ (keep : Keep) (now : ℕ) (t : ValueType) (values : List BaseValue) (ordered : IsOrdered (reverse (map (read_value t) values))) (k : ℕ) (v : BaseValue) (l : k < length values) (is : v ≡ get_or values k v) where
  abbrev so_far : List Stored
  so_far = reverse (map (read_value t) (take k values))

  next_is : reverse (map (read_value t) (take (k + 1) values)) ≡ read_value t v ∷ so_far
  next_is =
      ap (λ xs. reverse (map (read_value t) xs)) (take_more values k v l ∙ ap (λ y. take k values ++ y ∷ []) (sym is))
      ∙ ap reverse (map-append (read_value t) (take k values) (v ∷ [])) ∙ reverse-append (map (read_value t) (take k values)) (read_value t v ∷ [])

  ordered_next : IsOrdered (read_value t v ∷ so_far)
  ordered_next =
      subst IsOrdered next_is
      (ordered_back (reverse (map (read_value t) (drop (k + 1) values))) (reverse (map (read_value t) (take (k + 1) values)))
      (subst IsOrdered
      (ap (λ xs. reverse (map (read_value t) xs)) (sym (take-append-drop (k + 1) values)) ∙ ap reverse (map-append (read_value t) (take (k + 1) values) (drop (k + 1) values))
      ∙ reverse-append (map (read_value t) (take (k + 1) values)) (map (read_value t) (drop (k + 1) values))) ordered))

  pub one_more : (s : Stored) (own : Keep) (kept next : List Stored) → s ≡ read_value t v → own ≡ keep → kept ≡ trim keep now so_far → next ≡ trim own now (placed s kept) → next ≡ trim keep now (reverse (map (read_value t) (take (k + 1) values)))
  one_more s own kept next made same before e =
      e ∙ ap (λ r. trim r now (placed s kept)) same ∙ ap (λ x. trim keep now (placed x kept)) made ∙ ap (λ xs. trim keep now (placed (read_value t v) xs)) before
      ∙ stands_placed keep (trim keep now so_far) (read_value t v) now now so_far (ordered_trim keep now so_far ordered_next.1) (le_refl now) ordered_next.1 (λ later m. trim_trim keep now later m so_far ordered_next.1) now (le_refl now)
      ∙ ap (trim keep now) (placed_first (read_value t v) so_far ordered_next ∙ sym next_is)

-- what is to be kept of an item that is there
pub put_there : (conf : Conf) (keeps : List Keep) (id : ℕ) (item : Item) (keep : Keep) → keeps ≡ keeps_of conf → at_id conf.items id ≡ Some item → at_id keeps id ≡ Some keep → keep ≡ keep_of conf id
put_there conf keeps id item keep same there at =
    let q : Some keep ≡ Some (keep_of conf id) = sym at ∙ ap (λ ks. at_id ks id) same ∙ at_ids (keep_of conf) conf.items id ∙ ap (option_map (λ (x : Item). keep_of conf id)) there in cc

pub no_keep : (conf : Conf) (keeps : List Keep) (id : ℕ) (item : Item) → keeps ≡ keeps_of conf → at_id conf.items id ≡ Some item → at_id keeps id ≡ None → ⊥
no_keep conf keeps id item same there none =
    let q : None ≡ Some (keep_of conf id) = sym none ∙ ap (λ ks. at_id ks id) same ∙ at_ids (keep_of conf) conf.items id ∙ ap (option_map (λ (x : Item). keep_of conf id)) there in cc
