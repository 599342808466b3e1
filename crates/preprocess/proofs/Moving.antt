-- Cells that are moved.
use Rattle.std.proofs.Common.{◌≡◌, ◌≢◌, ◌∙◌, ◌<◌, ◌≤◌, ◌+◌, ◌⊎◌, inl, inr, ℕ, zero, suc, Bool, true, false, List, [], ◌∷◌, ◌++◌, length, take, set, map, get_or, Option, Some, None, option_map, refl, sym, ap, ap₂, subst, arith}
use Rattle.std.specs.Bool.{OnTrue}
use Rattle.std.specs.Option.{unwrap_or}
use Rattle.std.specs.Prelude.{option_and_then, slice_get}
use Rattle.std.proofs.lemmas.List.{take_more, take_more_set}
use Rattle.std.proofs.lemmas.Option.{get_or_from_slice_get}
use Rattle.zbx_types.specs.Ids.{at_id}
use Rattle.zbx_types.specs.declared.entries.Stored.{Stored}
use Rattle.zbx_types.proofs.RowLemmas.{at_zero}
use Rattle.value_cache.specs.Cells.{CellView, IsExact, trim}
use Rattle.value_cache.specs.declared.keeping.Keep.{Keep}
use Rattle.preprocess.specs.Carry.{still_kept}
use Rattle.preprocess.specs.Cells.{empty}
use Rattle.preprocess.specs.Draft.{Kept, kept_of}
use Rattle.preprocess.specs.Moves.{Claims, GoApart}
use Rattle.preprocess.specs.Rows.{with_row}
use Rattle.preprocess.proofs.GoingOn.{empty_trim, exact_empty}
use Rattle.preprocess.proofs.Rows.{there, row_same, row_other, with_zero}

-- ---- marks

pub was_free : (o : Option Bool) → unwrap_or o false ≡ true → o ≡ Some true
was_free None e = absurd (cc)
was_free (Some b) e = ap Some e

pub claims_from : (free after : List Bool) (id : ℕ) (b : Bool) → after ≡ with_row free id false → b ≡ unwrap_or (at_id free id) false
    → OnTrue b ((at_id free id ≡ Some true) × (after ≡ with_row free id false))
claims_from free after id true e u = (was_free (at_id free id) (sym u), e)
claims_from free after id false e u = tt

pub on_true : (b : Bool) (P : Type 0) → OnTrue b P → b ≡ true → P
on_true true P h e = h
on_true false P h e = absurd (cc)

-- the first of these have no id twice
abbrev pub Apart : ℕ → List (Option ℕ) → Type 0
Apart n olds = (p q id : ℕ) → p < n → q < n → slice_get olds p ≡ Some (Some id) → slice_get olds q ≡ Some (Some id) → p ≡ q

-- the marks of their ids are taken
abbrev pub Spent : ℕ → List (Option ℕ) → List Bool → Type 0
Spent n olds free = (p id : ℕ) → p < n → slice_get olds p ≡ Some (Some id) → at_id free id ≡ Some false

pub apart_none : (olds : List (Option ℕ)) → Apart 0 olds
apart_none olds p q id a b d e = absurd (omega (arith, a))

pub spent_none : (olds : List (Option ℕ)) (free : List Bool) → Spent 0 olds free
spent_none olds free p id a e = absurd (omega (arith, a))

-- what stands at a place
pub got : {A : Type 0} (xs : List A) (i : ℕ) (x d : A) → i < length xs → x ≡ get_or xs i d → slice_get xs i ≡ Some x
got xs i x d l e = let t = there xs i l in t.1 ∙ ap Some (sym (e ∙ get_or_from_slice_get xs i t.0 d t.1))

pub within : {A : Type 0} (xs : List A) (i : ℕ) (x : A) → slice_get xs i ≡ Some x → i < length xs
within [] i x e = absurd (cc)
within (y ∷ xs) zero x e = omega arith
within (y ∷ xs) (suc i) x e = let b = within xs i x e in omega (arith, b)

same_id : (o : Option ℕ) (id : ℕ) (p : Option (Option ℕ)) → p ≡ Some o → p ≡ Some (Some id) → o ≡ Some id
same_id o id p a b = cc

claimed : (free after : List Bool) (o : Option ℕ) (id : ℕ) → Claims free after o → o ≡ Some id → (at_id free id ≡ Some true) × (after ≡ with_row free id false)
claimed free after None id c e = absurd (cc)
claimed free after (Some j) id c e = subst (λ k. (at_id free k ≡ Some true) × (after ≡ with_row free k false)) (same j id e) c
  where
    same : (a b : ℕ) → Some a ≡ Some b → a ≡ b
    same a b i = cc

less_or : (p n : ℕ) → p < n + 1 → (p < n) ⊎ (p ≡ n)
less_or p n l = go (nat_cases p n)
  where
    nat_cases : (p n : ℕ) → (p < n) ⊎ (n ≤ p)
    nat_cases zero zero = inr (omega arith)
    nat_cases zero (suc n) = inl (omega arith)
    nat_cases (suc p) zero = inr (omega arith)
    nat_cases (suc p) (suc n) = more (nat_cases p n)
      where
        more : (p < n) ⊎ (n ≤ p) → (suc p < suc n) ⊎ (suc n ≤ suc p)
        more (inl a) = inl (omega (arith, a))
        more (inr a) = inr (omega (arith, a))

    go : (p < n) ⊎ (n ≤ p) → (p < n) ⊎ (p ≡ n)
    go (inl a) = inl a
    go (inr a) = inr (omega (arith, a, l))

pub apart_on : (olds : List (Option ℕ)) (n : ℕ) (o d : Option ℕ) (free after : List Bool) → n < length olds → o ≡ get_or olds n d → Claims free after o → Apart n olds → Spent n olds free → Apart (n + 1) olds
apart_on olds n o d free after l e claims apart spent p q id lp lq ep eq = go (less_or p n lp) (less_or q n lq)
  where
    here : slice_get olds n ≡ Some o
    here = got olds n o d l e

    -- it was still to be had, so it isn't an earlier one
    fresh : (i : ℕ) → i < n → slice_get olds i ≡ Some (Some id) → slice_get olds n ≡ Some (Some id) → ⊥
    fresh i li ei en =
        let c = claimed free after o id claims (same_id o id (slice_get olds n) here en) in
        let s = spent i id li ei in
        let t = c.0 in
        cc

    go : (p < n) ⊎ (p ≡ n) → (q < n) ⊎ (q ≡ n) → p ≡ q
    go (inl a) (inl b) = apart p q id a b ep eq
    go (inl a) (inr b) = absurd (fresh p a ep (subst (λ i. slice_get olds i ≡ Some (Some id)) b eq))
    go (inr a) (inl b) = absurd (fresh q b eq (subst (λ i. slice_get olds i ≡ Some (Some id)) a ep))
    go (inr a) (inr b) = a ∙ sym b

pub spent_on : (olds : List (Option ℕ)) (n : ℕ) (o d : Option ℕ) (free after : List Bool) → n < length olds → o ≡ get_or olds n d → Claims free after o → Spent n olds free → Spent (n + 1) olds after
spent_on olds n o d free after l e claims spent p id lp ep = go o claims (less_or p n lp) (got olds n o d l e)
  where
    taken : (j : ℕ) → at_id free j ≡ Some true → at_id (with_row free j false) j ≡ Some false
    taken j t = row_same free j false ∙ ap (option_map (λ _. false)) t

    same : (a b : ℕ) → Some a ≡ Some b → a ≡ b
    same a b i = cc

    go : (o : Option ℕ) → Claims free after o → (p < n) ⊎ (p ≡ n) → slice_get olds n ≡ Some o → at_id after id ≡ Some false
    go None c (inl a) h = ap (λ rows. at_id rows id) (sym c) ∙ spent p id a ep
    go None c (inr a) h = let w = subst (λ i. slice_get olds i ≡ Some (Some id)) a ep in absurd (cc)
    go (Some j) c (inl a) h =
        let s = spent p id a ep in
        let ne : j ≢ id = λ q. (let t = ap (at_id free) (sym q) in let u = c.0 in absurd (cc)) in
        ap (λ rows. at_id rows id) c.1 ∙ row_other free j id false ne ∙ s
    go (Some j) c (inr a) h =
        let is : j ≡ id = same_place j (slice_get olds n) h (subst (λ i. slice_get olds i ≡ Some (Some id)) a ep) in
        ap (λ rows. at_id rows id) c.1 ∙ ap (at_id (with_row free j false)) (sym is) ∙ taken j c.0
      where
        same_place : (j : ℕ) (p : Option (Option ℕ)) → p ≡ Some (Some j) → p ≡ Some (Some id) → j ≡ id
        same_place j p a b = cc

pub all_apart : (olds : List (Option ℕ)) (n : ℕ) → length olds ≤ n → Apart n olds → GoApart olds
all_apart olds n l apart p q id ep eq =
    let a = within olds p (Some id) ep in let b = within olds q (Some id) eq in
    apart p q id (omega (arith, a, l)) (omega (arith, b, l)) ep eq

-- ---- one cell

map_set : {A B : Type 0} (f : A → B) (xs : List A) (i : ℕ) (x : A) → map f (set xs i x) ≡ set (map f xs) i (f x)
map_set f [] i x = refl
map_set f (y ∷ xs) zero x = refl
map_set f (y ∷ xs) (suc i) x = ap (λ ys. f y ∷ ys) (map_set f xs i x)

pub keep_set : (cells : List CellView) (i : ℕ) (cell d : CellView) → i < length cells → cell.keep ≡ (get_or cells i d).keep
    → map (λ (c : CellView). c.keep) (set cells i cell) ≡ map (λ (c : CellView). c.keep) cells
keep_set [] i cell d l e = refl
keep_set (c ∷ cells) zero cell d l e = ap (λ k. k ∷ map (λ (x : CellView). x.keep) cells) e
keep_set (c ∷ cells) (suc i) cell d l e = ap (λ ks. c.keep ∷ ks) (keep_set cells i cell d (omega (arith, l)) e)

moved_values : (now : ℕ) (cells : List CellView) (fresh : CellView) → fresh.values ≡ [] → (old : Option ℕ) (cell : CellView) → cell ≡ unwrap_or (at_id cells (unwrap_or old 0)) fresh
    → trim cell.keep now cell.values ≡ still_kept now (option_and_then (at_id cells) old)
moved_values now cells fresh none old cell e = ap (λ (c : CellView). trim c.keep now c.values) e ∙ go old
  where
    nothing : trim fresh.keep now fresh.values ≡ []
    nothing = ap (trim fresh.keep now) none ∙ empty_trim fresh.keep now

    by : (o : Option CellView) → trim (unwrap_or o fresh).keep now (unwrap_or o fresh).values ≡ still_kept now o
    by None = nothing
    by (Some c) = refl

    go : (old : Option ℕ) → trim (unwrap_or (at_id cells (unwrap_or old 0)) fresh).keep now (unwrap_or (at_id cells (unwrap_or old 0)) fresh).values ≡ still_kept now (option_and_then (at_id cells) old)
    go None = ap (λ o. trim (unwrap_or o fresh).keep now (unwrap_or o fresh).values) (at_zero cells) ∙ nothing
    go (Some id) = by (at_id cells id)

pub values_set : (now : ℕ) (made cells : List CellView) (i : ℕ) (fresh cell next : CellView) (old : Option ℕ) (id : ℕ) → IsExact fresh 0 [] → id ≡ unwrap_or old 0
    → cell ≡ unwrap_or (at_id cells id) fresh → next.values ≡ trim cell.keep now cell.values
    → map (λ (c : CellView). c.values) (set made i next) ≡ set (map (λ (c : CellView). c.values) made) i (still_kept now (option_and_then (at_id cells) old))
values_set now made cells i fresh cell next old id exact ei ec en =
    map_set (λ (c : CellView). c.values) made i next
    ∙ ap (set (map (λ (c : CellView). c.values) made) i) (en ∙ moved_values now cells fresh (exact_empty fresh exact) old cell (ec ∙ ap (λ j. unwrap_or (at_id cells j) fresh) ei))

pub others_stay : {A : Type 0} (cells after : List A) (old : Option ℕ) (j id : ℕ) (row : A) → j ≡ unwrap_or old 0 → after ≡ with_row cells j row → old ≢ Some id → at_id after id ≡ at_id cells id
others_stay cells after None j id row e is ne = ap (λ rows. at_id rows id) (is ∙ ap (λ k. with_row cells k row) e ∙ with_zero cells row)
others_stay cells after (Some k) j id row e is ne = ap (λ rows. at_id rows id) (is ∙ ap (λ k. with_row cells k row) e) ∙ row_other cells k id row (λ q. ne (ap Some q))

-- ---- one cell after the other

count_map : {A B : Type 0} (f : A → B) (xs : List A) → length (map f xs) ≡ length xs
count_map f [] = refl
count_map f (x ∷ xs) = ap suc (count_map f xs)

get_map : {A B : Type 0} (f : A → B) (xs : List A) (i : ℕ) (x d : A) → i < length xs → x ≡ get_or xs i d → get_or (map f xs) i (f x) ≡ f x
get_map f [] i x d l e = refl
get_map f (y ∷ xs) zero x d l e = ap f (sym e)
get_map f (y ∷ xs) (suc i) x d l e = get_map f xs i x d (omega (arith, l)) e

take_map : {A B : Type 0} (f : A → B) (n : ℕ) (xs : List A) → take n (map f xs) ≡ map f (take n xs)
take_map f zero xs = refl
take_map f (suc n) [] = refl
take_map f (suc n) (x ∷ xs) = ap (λ ys. f x ∷ ys) (take_map f n xs)

-- the cells whose ids are still to come are as they were
abbrev pub Intact : ℕ → List (Option ℕ) → List CellView → List CellView → Type 0
Intact n olds was cells = (p id : ℕ) → n ≤ p → slice_get olds p ≡ Some (Some id) → at_id cells id ≡ at_id was id

-- the same is kept of a cell that is as it was
same_kept : (now n : ℕ) (olds : List (Option ℕ)) (was cells : List CellView) → Intact n olds was cells → (o : Option ℕ) → slice_get olds n ≡ Some o
    → still_kept now (option_and_then (at_id cells) o) ≡ still_kept now (option_and_then (at_id was) o)
same_kept now n olds was cells intact None h = refl
same_kept now n olds was cells intact (Some id) h = ap (still_kept now) (intact n id (omega arith) h)

pub moved_on : (now n : ℕ) (olds : List (Option ℕ)) (was cells : List CellView) (values after : List (List Stored)) (o d : Option ℕ) → n < length olds → length values ≡ length olds → o ≡ get_or olds n d
    → Intact n olds was cells → after ≡ set values n (still_kept now (option_and_then (at_id cells) o))
    → take n values ≡ map (λ id. still_kept now (option_and_then (at_id was) id)) (take n olds)
    → take (n + 1) after ≡ map (λ id. still_kept now (option_and_then (at_id was) id)) (take (n + 1) olds)
moved_on now n olds was cells values after o d l many e intact is before =
    ap (take (n + 1)) is
    ∙ take_more_set values n (f cells o) (omega (arith, l, many))
    ∙ ap₂ (λ xs y. xs ++ y ∷ []) (before ∙ sym (take_map (f was) n olds)) (same_kept now n olds was cells intact o (got olds n o d l e) ∙ sym (get_map (f was) olds n o d l e))
    ∙ sym (take_more (map (f was) olds) n (f was o) (omega (arith, l, count)))
    ∙ take_map (f was) (n + 1) olds
  where
    f : List CellView → Option ℕ → List Stored
    f cells id = still_kept now (option_and_then (at_id cells) id)

    count : length (map (f was) olds) ≡ length olds
    count = count_map (f was) olds

pub intact_on : (n : ℕ) (olds : List (Option ℕ)) (was cells after : List CellView) (o d : Option ℕ) → GoApart olds → n < length olds → o ≡ get_or olds n d
    → ((id : ℕ) → o ≢ Some id → at_id after id ≡ at_id cells id) → Intact n olds was cells → Intact (n + 1) olds was after
intact_on n olds was cells after o d apart l e others intact p id lp ep = others id ne ∙ intact p id (omega (arith, lp)) ep
  where
    ne : o ≢ Some id
    ne q = let s = apart n p id (got olds n o d l e ∙ ap Some q) ep in absurd (omega (arith, s, lp))

take_whole : {A : Type 0} (n : ℕ) (xs : List A) → length xs ≤ n → take n xs ≡ xs
take_whole zero [] l = refl
take_whole zero (x ∷ xs) l = absurd (omega (arith, l))
take_whole (suc n) [] l = refl
take_whole (suc n) (x ∷ xs) l = ap (λ ys. x ∷ ys) (take_whole n xs (omega (arith, l)))

pub all_moved : (now n : ℕ) (olds : List (Option ℕ)) (was : List CellView) (values : List (List Stored)) → length olds ≤ n → length values ≡ length olds
    → take n values ≡ map (λ id. still_kept now (option_and_then (at_id was) id)) (take n olds) → values ≡ map (λ id. still_kept now (option_and_then (at_id was) id)) olds
all_moved now n olds was values l many is =
    sym (take_whole n values (omega (arith, l, many))) ∙ is ∙ ap (map (λ id. still_kept now (option_and_then (at_id was) id))) (take_whole n olds l)

-- as many values as rules
pub count_values : (cells was : List CellView) (olds : List (Option ℕ)) → map (λ (c : CellView). c.keep) cells ≡ map (λ (c : CellView). c.keep) was → length was ≡ length olds
    → length (map (λ (c : CellView). c.values) cells) ≡ length olds
count_values cells was olds e many = count_map (λ (c : CellView). c.values) cells ∙ sym (count_map (λ (c : CellView). c.keep) cells) ∙ ap length e ∙ count_map (λ (c : CellView). c.keep) was ∙ many

pub count_cells : (cells was : List CellView) (olds : List (Option ℕ)) → map (λ (c : CellView). c.keep) cells ≡ map (λ (c : CellView). c.keep) was → length was ≡ length olds → length cells ≡ length olds
count_cells cells was olds e many = sym (count_map (λ (c : CellView). c.keep) cells) ∙ ap length e ∙ count_map (λ (c : CellView). c.keep) was ∙ many

-- ---- new cells

keep_kept : (cells : List CellView) → map (λ (k : Kept). k.keep) (map kept_of cells) ≡ map (λ (c : CellView). c.keep) cells
keep_kept [] = refl
keep_kept (c ∷ cells) = ap (λ ks. c.keep ∷ ks) (keep_kept cells)

keep_empty : (keeps : List Keep) → map (λ (k : Kept). k.keep) (map empty keeps) ≡ keeps
keep_empty [] = refl
keep_empty (k ∷ keeps) = ap (λ ks. k ∷ ks) (keep_empty keeps)

pub empty_keeps : (cells : List CellView) (keeps : List Keep) → map kept_of cells ≡ map empty keeps → map (λ (c : CellView). c.keep) cells ≡ keeps
empty_keeps cells keeps e = sym (keep_kept cells) ∙ ap (map (λ (k : Kept). k.keep)) e ∙ keep_empty keeps

pub empty_many : (cells : List CellView) (keeps : List Keep) (olds : List (Option ℕ)) → map kept_of cells ≡ map empty keeps → length olds ≡ length keeps → length cells ≡ length olds
empty_many cells keeps olds e many = sym (count_map kept_of cells) ∙ ap length e ∙ count_map empty keeps ∙ sym many
