-- Rows by ids, where one is another.
use Rattle.std.proofs.Common.{◌≡◌, ◌≢◌, ℕ, zero, suc, ◌-◌, ◌<◌, ◌≤◌, ◌==◌, Bool, true, false, cond, Some, None, List, [], ◌∷◌, ◌++◌, length, set, slice_get, refl, sym, ◌∙◌, ap, ne_eqb, eq-eqb, eqb-true, arith, option_map, append-nil, append_assoc, get_or, drop, replicate, ◌+◌}
use Rattle.std.specs.Option.{unwrap_or}
use Rattle.zbx_types.specs.Ids.{at_id}
use Rattle.std.proofs.lemmas.List.{set_past, length-set, drop_more}
use Rattle.std.proofs.lemmas.Option.{get_or_from_slice_get}
use Rattle.zbx_types.proofs.RowLemmas.{at_zero, at_suc, slice_get_set_same, slice_get_set_other}
use Rattle.zbx_types.specs.declared.items.Item.{Item}
use Rattle.preprocess.specs.Chains.{listed, is_dependent, depends_on, dependents_from}
use Rattle.preprocess.specs.Rows.{with_row, with_id, noted}

pub with_suc : {A : Type 0} (rows : List A) (k : ℕ) (row : A) → with_row rows (suc k) row ≡ set rows k row
unfolding with_row
with_suc rows k row =
    let t : (suc k == 0) ≡ false = ne_eqb (suc k) 0 (λ q. absurd (omega arith)) in
    let m : suc k - 1 ≡ k = omega arith in
    rw (t, m) refl

pub with_zero : {A : Type 0} (rows : List A) (row : A) → with_row rows 0 row ≡ rows
unfolding with_row
with_zero rows row = refl

-- the row that is another, and the rest
pub row_same : {A : Type 0} (rows : List A) (id : ℕ) (row : A) → at_id (with_row rows id row) id ≡ option_map (λ _. row) (at_id rows id)
row_same rows zero row = at_zero (with_row rows zero row) ∙ ap (option_map (λ _. row)) (sym (at_zero rows))
row_same rows (suc k) row =
    ap (λ xs. at_id xs (suc k)) (with_suc rows k row) ∙ at_suc (set rows k row) k ∙ slice_get_set_same rows k row ∙ ap (option_map (λ _. row)) (sym (at_suc rows k))

pub row_other : {A : Type 0} (rows : List A) (id other : ℕ) (row : A) → id ≢ other → at_id (with_row rows id row) other ≡ at_id rows other
row_other rows zero other row ne = ap (λ xs. at_id xs other) (with_zero rows row)
row_other rows (suc k) zero row ne = at_zero (with_row rows (suc k) row) ∙ sym (at_zero rows)
row_other rows (suc k) (suc j) row ne =
    ap (λ xs. at_id xs (suc j)) (with_suc rows k row) ∙ at_suc (set rows k row) j ∙ slice_get_set_other rows k j row (λ e. ne (ap suc e)) ∙ sym (at_suc rows j)

-- a row that is there
pub there : {A : Type 0} (xs : List A) (i : ℕ) → i < length xs → (x : A) × (slice_get xs i ≡ Some x)
there [] i h = absurd (omega arith)
there (x ∷ xs) zero h = (x, refl)
there (x ∷ xs) (suc i) h = there xs i (omega arith)

pub row_there : {A : Type 0} (rows : List A) (id : ℕ) → 1 ≤ id → id ≤ length rows → (row : A) × (at_id rows id ≡ Some row)
row_there rows zero a b = absurd (omega arith)
row_there rows (suc k) a b = let t = there rows k (omega arith) in (t.0, at_suc rows k ∙ t.1)

-- where a row is there, its id is one of the list
pub row_within : {A : Type 0} (rows : List A) (id : ℕ) (row : A) → at_id rows id ≡ Some row → (1 ≤ id) × (id ≤ length rows)
row_within rows zero row e = let n = at_zero rows in absurd (cc)
row_within rows (suc k) row e = (omega arith, bound rows k row (sym (at_suc rows k) ∙ e))
  where
    bound : {A : Type 0} (xs : List A) (i : ℕ) (x : A) → slice_get xs i ≡ Some x → suc i ≤ length xs
    bound [] i x e = absurd (cc)
    bound (y ∷ xs) zero x e = omega arith
    bound (y ∷ xs) (suc i) x e = let b = bound xs i x e in omega (arith, b)

-- the lists with an id more
pub listed_more : (rows : List (List ℕ)) (item id q : ℕ) → 1 ≤ q → q ≤ length rows → listed (with_id rows item id) q ≡ listed rows q ++ cond (item == q) (id ∷ []) []
listed_more rows item id q a b = go (item == q) refl
  where
    go : (b : Bool) → (item == q) ≡ b → listed (with_id rows item id) q ≡ listed rows q ++ cond b (id ∷ []) []
    go true e =
        let is : item ≡ q = eqb-true item q e in
        let t = row_there rows q a b in
        ap (λ i. listed (with_id rows i id) q) is
        ∙ ap (λ o. unwrap_or o []) (row_same rows q (listed rows q ++ id ∷ []) ∙ ap (option_map (λ _. listed rows q ++ id ∷ [])) t.1)
    go false e =
        ap (λ o. unwrap_or o []) (row_other rows item q (listed rows item ++ id ∷ []) (λ p. let n : (item == q) ≡ true = eq-eqb item q p in cc))
        ∙ sym (append-nil (listed rows q))

pub length_more : (rows : List (List ℕ)) (item id : ℕ) → length (with_id rows item id) ≡ length rows
length_more rows zero id = ap length (with_zero rows (listed rows 0 ++ id ∷ []))
length_more rows (suc k) id = ap length (with_suc rows k (listed rows (suc k) ++ id ∷ [])) ∙ length-set rows k (listed rows (suc k) ++ id ∷ [])

-- what a write leaves
pub entered : (rows : List (List ℕ)) (item id : ℕ) (row : List ℕ) → item ≢ 0 → item - 1 < length rows → row ≡ get_or rows (item - 1) row ++ id ∷ []
    → set rows (item - 1) row ≡ with_id rows item id
entered rows zero id row ne h e = absurd (ne refl)
entered rows (suc k) id row ne h e =
    let m : suc k - 1 ≡ k = omega arith in
    let t = there rows k (omega (arith, h, m)) in
    let g : get_or rows k row ≡ t.0 = get_or_from_slice_get rows k t.0 row t.1 in
    ap (λ j. set rows j row) m
    ∙ ap (set rows k) (e ∙ ap (λ j. get_or rows j row ++ id ∷ []) m ∙ ap (λ r. r ++ id ∷ []) (g ∙ sym (ap (λ o. unwrap_or o []) (at_suc rows k ∙ t.1))))
    ∙ sym (with_suc rows k (listed rows (suc k) ++ id ∷ []))

pub entered_none : (rows : List (List ℕ)) (item id : ℕ) → item ≡ 0 → rows ≡ with_id rows item id
entered_none rows item id e = rw e (sym (with_zero rows (listed rows 0 ++ id ∷ [])))

pub entered_past : (rows : List (List ℕ)) (item id : ℕ) → item ≢ 0 → length rows ≤ item - 1 → rows ≡ with_id rows item id
entered_past rows zero id ne h = absurd (ne refl)
entered_past rows (suc k) id ne h = sym (with_suc rows k (listed rows (suc k) ++ id ∷ []) ∙ set_past rows k (listed rows (suc k) ++ id ∷ []) (omega arith))

-- one item more of those whose dependents are listed
pub listed_on : (items : List Item) (rows after : List (List ℕ)) (i : ℕ) (item : Item) → i < length items → length rows ≡ length items
    → item ≡ get_or items i item → after ≡ noted rows item (i + 1) → (q : ℕ) → 1 ≤ q → q ≤ length items
    → listed rows q ++ dependents_from q (i + 1) (drop i items) ≡ dependents_from q 1 items
    → listed after q ++ dependents_from q (i + 1 + 1) (drop (i + 1) items) ≡ dependents_from q 1 items
listed_on items rows after i item l same is e q a b before =
    ap (λ xs. xs ++ rest) (ap (λ rows. listed rows q) e ∙ more (is_dependent item) refl)
    ∙ append_assoc (listed rows q) (cond (depends_on q item) ((i + 1) ∷ []) []) rest
    ∙ ap (λ xs. listed rows q ++ xs) (sym (ap (dependents_from q (i + 1)) parts))
    ∙ before
  where
    parts : drop i items ≡ item ∷ drop (i + 1) items
    parts = drop_more items i item l ∙ ap (λ (x : Item). x ∷ drop (i + 1) items) (sym is)

    rest : List ℕ
    rest = dependents_from q (i + 1 + 1) (drop (i + 1) items)

    more : (d : Bool) → is_dependent item ≡ d → listed (noted rows item (i + 1)) q ≡ listed rows q ++ cond (depends_on q item) ((i + 1) ∷ []) []
    more true d = rw d (listed_more rows item.master (i + 1) q a (omega (arith, same, b)))
    more false d = rw d (sym (append-nil (listed rows q)))

pub length_on : (rows after : List (List ℕ)) (item : Item) (id : ℕ) → after ≡ noted rows item id → length after ≡ length rows
length_on rows after item id e = ap length e ∙ go (is_dependent item)
  where
    go : (d : Bool) → length (cond d (with_id rows item.master id) rows) ≡ length rows
    go true = length_more rows item.master id
    go false = refl

-- lists of which none has anything
pub listed_none : (n q : ℕ) → listed {A = ℕ} (replicate n []) q ≡ []
listed_none n zero = ap (λ o. unwrap_or o []) (at_zero (replicate n []))
listed_none n (suc k) = ap (λ o. unwrap_or o []) (at_suc (replicate n []) k) ∙ go n k
  where
    go : (n k : ℕ) → unwrap_or (slice_get {X = List ℕ} (replicate n []) k) [] ≡ []
    go zero k = refl
    go (suc n) zero = refl
    go (suc n) (suc k) = go n k
