-- Rows that are taken out and put back.
use Rattle.std.proofs.Common.{◌≡◌, ◌≢◌, ◌≤◌, ◌<◌, ◌-◌, ◌==◌, ℕ, zero, suc, List, [], ◌∷◌, ◌++◌, refl, sym, ◌∙◌, ap, set, length, get_or, reverse, take, false, ne_eqb, slice_get, arith}
use Rattle.std.proofs.lemmas.List.{set_past, reverse-append}
use Rattle.std.proofs.Math.Seq.{take-append_seam, take-length}
use Rattle.entry_step.specs.Changes.{restored, with_row, with_rows, with_all, put_back}
use Rattle.entry_step.specs.declared.changes.Fresh.{Fresh}
use Rattle.entry_step.specs.Represents.{problems_at}
use Rattle.entry_step.specs.declared.changes.Before.TheVariants as before
use Rattle.std.specs.Option.{unwrap_or}
use Rattle.zbx_types.specs.Ids.{at_id}
use Rattle.trigger_state.specs.declared.problems.Open.{Open}
use Rattle.entry_step.specs.declared.changes.Row.{Row}

pub rows_push : (rows : List (List Open)) (rs : List Row) (r : Row) → with_rows rows (rs ++ r ∷ []) ≡ set (with_rows rows rs) r.index (restored (get_or (with_rows rows rs) r.index []) r.before)
rows_push rows [] r = refl
rows_push rows (x ∷ rs) r = rows_push (set rows x.index (restored (get_or rows x.index []) x.before)) rs r

-- a row of no trigger
pub rows_past : (rows : List (List Open)) (rs : List Row) (r : Row) → length (with_rows rows rs) ≤ r.index → with_rows rows (rs ++ r ∷ []) ≡ with_rows rows rs
rows_past rows rs r h = rows_push rows rs r ∙ set_past (with_rows rows rs) r.index (restored (get_or (with_rows rows rs) r.index []) r.before) h

pub row_none : (rows : List (List Open)) (id : ℕ) (os : List Open) → id ≡ 0 → with_row rows id os ≡ rows
unfolding with_row
row_none rows id os e = rw e refl

pub row_in : (rows : List (List Open)) (id : ℕ) (os : List Open) → id ≢ 0 → with_row rows id os ≡ set rows (id - 1) os
unfolding with_row
row_in rows id os h = let e : (id == 0) ≡ false = ne_eqb id 0 h in rw e refl

pub row_past : (rows : List (List Open)) (id : ℕ) (os : List Open) → id ≢ 0 → length rows ≤ id - 1 → with_row rows id os ≡ rows
row_past rows id os h l = row_in rows id os h ∙ set_past rows (id - 1) os l

-- one more open problem of a trigger
pub row_more : (rows : List (List Open)) (id : ℕ) (os : List Open) (o : Open) → id ≢ 0 → id - 1 < length rows → os ≡ get_or rows (id - 1) os
    → with_row rows id (problems_at rows id ++ o ∷ []) ≡ set rows (id - 1) (os ++ o ∷ [])
unfolding problems_at at_id
row_more rows id os o h l e =
    row_in rows id (problems_at rows id ++ o ∷ []) h
    ∙ ap (λ xs. set rows (id - 1) (xs ++ o ∷ [])) (let t : (id == 0) ≡ false = ne_eqb id 0 h in rw t (go rows (id - 1) l e))
  where
    go : (rows : List (List Open)) (i : ℕ) → i < length rows → os ≡ get_or rows i os → unwrap_or (slice_get rows i) [] ≡ os
    go [] i l e = absurd (omega arith)
    go (x ∷ xs) zero l e = sym e
    go (x ∷ xs) (suc i) l e = go xs i (omega arith) e

set_set : (rows : List (List Open)) (i : ℕ) (a b : List Open) → set (set rows i a) i b ≡ set rows i b
set_set [] i a b = refl
set_set (x ∷ xs) zero a b = refl
set_set (x ∷ xs) (suc i) a b = ap (λ ys. x ∷ ys) (set_set xs i a b)

set_get : (rows : List (List Open)) (i : ℕ) (a b : List Open) → a ≡ get_or rows i a → set (set rows i b) i a ≡ rows
set_get [] i a b e = refl
set_get (x ∷ xs) zero a b e = ap (λ y. y ∷ xs) e
set_get (x ∷ xs) (suc i) a b e = ap (λ ys. x ∷ ys) (set_get xs i a b e)

-- what was done last is undone first
back_last : (rows next : List (List Open)) (taken : List Row) (r : Row) → set next r.index (restored (get_or next r.index []) r.before) ≡ rows → put_back next (taken ++ r ∷ []) ≡ put_back rows taken
unfolding put_back
back_last rows next taken r e = ap (λ rs. with_rows next rs) (reverse-append taken (r ∷ [])) ∙ ap (λ xs. with_rows xs (reverse taken)) e

pub back_more : (rows : List (List Open)) (taken : List Row) (i : ℕ) (a b : List Open) → a ≡ get_or rows i a → put_back (set rows i b) (taken ++ record { index = i; before = before.All a } ∷ []) ≡ put_back rows taken
back_more rows taken i a b e = back_last rows (set rows i b) taken (record { index = i; before = before.All a }) (set_get rows i a b e)

pub back_same : (rows : List (List Open)) (i : ℕ) (a b : List Open) → a ≡ get_or rows i a → set (set rows i b) i a ≡ rows
back_same rows i a b e = set_get rows i a b e

-- one more problem, and as many as before
set_first : (rows : List (List Open)) (i : ℕ) (a : List Open) (o : Open) → a ≡ get_or rows i a
    → set (set rows i (a ++ o ∷ [])) i (take (length a) (get_or (set rows i (a ++ o ∷ [])) i [])) ≡ rows
set_first [] i a o e = refl
set_first (x ∷ xs) zero a o e = ap (λ y. y ∷ xs) (take-append_seam a (o ∷ []) ∙ e)
set_first (x ∷ xs) (suc i) a o e = ap (λ ys. x ∷ ys) (set_first xs i a o e)

set_same : (rows : List (List Open)) (i : ℕ) (a : List Open) → a ≡ get_or rows i a → set rows i a ≡ rows
set_same [] i a e = refl
set_same (x ∷ xs) zero a e = ap (λ y. y ∷ xs) e
set_same (x ∷ xs) (suc i) a e = ap (λ ys. x ∷ ys) (set_same xs i a e)

set_kept : (rows : List (List Open)) (i count : ℕ) (a : List Open) → a ≡ get_or rows i a → count ≡ length a → set rows i (take count (get_or rows i [])) ≡ rows
set_kept [] i count a e c = refl
set_kept (x ∷ xs) zero count a e c = ap (λ y. y ∷ xs) (ap (λ n. take n x) c ∙ ap (λ y. take (length y) x) e ∙ take-length x)
set_kept (x ∷ xs) (suc i) count a e c = ap (λ ys. x ∷ ys) (set_kept xs i count a e c)

pub back_first : (rows : List (List Open)) (taken : List Row) (i count : ℕ) (a : List Open) (o : Open) → a ≡ get_or rows i a → count ≡ length a
    → put_back (set rows i (a ++ o ∷ [])) (taken ++ record { index = i; before = before.First count } ∷ []) ≡ put_back rows taken
back_first rows taken i count a o e c =
    back_last rows (set rows i (a ++ o ∷ [])) taken (record { index = i; before = before.First count })
    (ap (λ n. set (set rows i (a ++ o ∷ [])) i (take n (get_or (set rows i (a ++ o ∷ [])) i []))) c ∙ set_first rows i a o e)

-- one that was refused: as many as before, of the same ones
pub back_refused : (rows : List (List Open)) (taken : List Row) (i count : ℕ) (a : List Open) → a ≡ get_or rows i a → count ≡ length a
    → put_back (set rows i a) (taken ++ record { index = i; before = before.First count } ∷ []) ≡ put_back rows taken
back_refused rows taken i count a e c =
    let r : Row = record { index = i; before = before.First count } in
    ap (λ xs. put_back xs (taken ++ r ∷ [])) (set_same rows i a e) ∙ back_last rows rows taken r (set_kept rows i count a e c)

-- fresh rows of one trigger more
pub all_push : (rows : List (List Open)) (fs : List Fresh) (f : Fresh) → with_all rows (fs ++ f ∷ []) ≡ with_row (with_all rows fs) f.id f.opens
all_push rows [] f = refl
all_push rows (x ∷ fs) f = all_push (with_row rows x.id x.opens) fs f
