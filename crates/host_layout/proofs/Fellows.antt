-- Items that have one master.
use Rattle.std.proofs.Common.{◌≡◌, ℕ, zero, suc, ◌+◌, ◌-◌, ◌<◌, ◌≤◌, Bool, true, false, List, [], ◌∷◌, ◌++◌, length, take, get_or, map, refl, ap, sym, ◌∙◌, subst, arith}
use Rattle.std.specs.Prelude.{Option, Some, cond, filter, slice_get, ◌==◌, ◌&&◌, nat_le, if◌then◌else◌, All}
use Rattle.std.specs.Option.{option_map_or}
use Rattle.std.proofs.lemmas.Bool.{leb-true}
use Rattle.std.proofs.lemmas.Grind.{common_steps}
use Rattle.std.proofs.lemmas.List.{take_more, length-map}
use Rattle.std.proofs.lemmas.List.Elements.{All-nil, All-cons, All-map, All-same}
use Rattle.zbx_types.specs.Ids.{at_id}
use Rattle.zbx_types.specs.declared.items.Item.{Item}
use Rattle.dependency_graph.specs.Tables.{IsClosed}
use Rattle.zbx_types.specs.declared.steps.StepSpec.{StepSpec}
use Rattle.host_layout.specs.Prepared.{with_steps}
use Rattle.host_layout.specs.Masters.{with_master, dependents, is_full, is_crowded, master_at, place_of, master_links}
use Rattle.host_layout.specs.Names.{named_item, named_items}
use Rattle.host_layout.specs.OwnedItems.{with_each}
use Rattle.host_layout.specs.Counting.{is_full_at}

count_cond : (b : Bool) (x : Item) (xs ys : List Item) (k : ℕ) → length xs ≡ length ys + k → length (cond b (x ∷ xs) xs) ≡ length (cond b (x ∷ ys) ys) + k
count_cond true x xs ys k h = omega (arith, h)
count_cond false x xs ys k h = h

-- one item more
counted_one : (before : List Item) (i : Item) (m : ℕ) → dependents m (before ++ i ∷ []) ≡ dependents m before + (if i.master == m then 1 else 0)
counted_one [] i m = at (i.master == m)
  where
    at : (b : Bool) → length (cond b (i ∷ []) []) ≡ 0 + (if b then 1 else 0)
    at true = refl
    at false = refl
counted_one (x ∷ before) i m =
    count_cond (x.master == m) x (filter (λ j. j.master == m) (before ++ i ∷ [])) (filter (λ j. j.master == m) before) (if i.master == m then 1 else 0) (counted_one before i m)

pub counted_more : (items : List Item) (place : ℕ) (i : Item) (m : ℕ) → place < length items → i ≡ get_or items place i → dependents m (take (place + 1) items) ≡ dependents m (take place items) + (if i.master == m then 1 else 0)
counted_more items place i m h e = ap (dependents m) (take_more items place i h ∙ ap (λ x. take place items ++ x ∷ []) (sym e)) ∙ counted_one (take place items) i m

slice_there : {A : Type 0} (xs : List A) (n : ℕ) (d : A) → n < length xs → slice_get xs n ≡ Some (get_or xs n d)
slice_there [] n d h = absurd (omega arith)
slice_there (x ∷ xs) zero d h = refl
slice_there (x ∷ xs) (suc n) d h = slice_there xs n d (omega arith)

not_zero : (n : ℕ) → (n + 1 == 0) ≡ false
not_zero n = grind (arith, common_steps)

pub at_place : {A : Type 0} (xs : List A) (n : ℕ) → at_id xs (n + 1) ≡ slice_get xs n
unfolding at_id
at_place xs n = let p : n + 1 - 1 ≡ n = omega arith in rw (not_zero n, p) refl

master_there : (items : List Item) (place : ℕ) (i : Item) → place < length items → i ≡ get_or items place i → master_at items (place + 1) ≡ i.master
master_there items place i h e =
    ap (λ (o : Option Item). option_map_or (λ j. j.master) o 0) (at_place items place ∙ slice_there items place i h) ∙ ap (λ (j : Item). j.master) (sym e)

full_same : (master a b : ℕ) → ((master == 0) ≡ false → a ≡ b) → is_full_at master a ≡ is_full_at master b
full_same master a b h = by (master == 0) refl
  where
    by : (z : Bool) → (master == 0) ≡ z → is_full_at master a ≡ is_full_at master b
    by true e = rw e refl
    by false e = ap (λ n. is_full_at master n) (h e)

-- the item at a place is crowded where its master is full of those before it
pub crowded_now : (items : List Item) (place : ℕ) (i : Item) (counts : ℕ → ℕ) → place < length items → i ≡ get_or items place i → ((m : ℕ) → (m == 0) ≡ false → counts m ≡ dependents m (take place items))
    → is_crowded items (place + 1) ≡ is_full_at i.master (counts i.master)
crowded_now items place i counts h e c =
    let p : place + 1 - 1 ≡ place = omega arith in
    ap (λ m. is_full m (take (place + 1 - 1) items)) (master_there items place i h e)
    ∙ ap (λ n. is_full i.master (take n items)) p
    ∙ sym (full_same i.master (counts i.master) (dependents i.master (take place items)) (c i.master))

below_by : (size id : ℕ) (a b : Bool) → nat_le 1 id ≡ a → nat_le id size ≡ b → All (λ t. t < size) (if a && b then (id - 1) ∷ [] else [])
below_by size id true true e f =
    let least : 1 ≤ id = leb-true 1 id e in
    let most : id ≤ size = leb-true id size f in
    All-cons (λ t. t < size) (id - 1) [] (omega (arith, least, most)) (All-nil (λ t. t < size))
below_by size id true false e f = All-nil (λ t. t < size)
below_by size id false b e f = All-nil (λ t. t < size)

below : (size id : ℕ) → All (λ t. t < size) (place_of size id)
below size id = below_by size id (nat_le 1 id) (nat_le id size) refl refl

-- the place of each master is that of an item
pub closed : (items : List Item) (links : List (List ℕ)) → links ≡ master_links items → IsClosed links
closed items links e =
    let size : length links ≡ length items = ap length e ∙ length-map items (λ i. place_of (length items) i.master) in
    let P : ℕ → List ℕ → Type 0 = λ n places. All (λ t. t < n) places in
    let Q : ℕ → Type 0 = λ n. All (P n) links in
    subst Q (sym size) (All-same (P (length items)) links (master_links items) e
    (All-map (P (length items)) (λ i. place_of (length items) i.master) items (λ k d within. below (length items) (get_or items k d).master)))

-- items keep their names with other masters
pub same_names : (items : List Item) (masters : List ℕ) → named_items (with_each with_master items masters) ≡ named_items items
same_names [] masters = refl
same_names (i ∷ items) [] = refl
same_names (i ∷ items) (m ∷ masters) = ap (λ ns. named_item i ∷ ns) (same_names items masters)

-- and with other steps
pub same_stepped : (items : List Item) (lists : List (List StepSpec)) → named_items (with_each with_steps items lists) ≡ named_items items
same_stepped [] lists = refl
same_stepped (i ∷ items) [] = refl
same_stepped (i ∷ items) (l ∷ lists) = ap (λ ns. named_item i ∷ ns) (same_stepped items lists)
