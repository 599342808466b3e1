-- The masters of each trigger, in rows by ids.
use Rattle.std.proofs.Common.{◌≡◌, ℕ, zero, suc, ◌+◌, ◌<◌, ◌≤◌, List, [], ◌∷◌, ◌++◌, Option, Some, None, length, map, take, get_or, slice_get, refl, sym, ◌∙◌, ap, arith}
use Rattle.std.proofs.lemmas.List.{take_more, take_all}
use Rattle.zbx_types.specs.Ids.{ids_from}
use Rattle.zbx_types.specs.Masters.{depends_by, masters_of}
use Rattle.zbx_types.specs.declared.conf.Conf.{Conf}
use Rattle.zbx_types.specs.declared.triggers.Trigger.{Trigger}
use Rattle.zbx_types.proofs.MasterLemmas.{no_masters}
use Rattle.conf_index.specs.Index.{listed}
use Rattle.zbx_types.proofs.RowLemmas.{at_zero, at_suc}

-- the ids of a list's items
length_ids : (first : ℕ) (ts : List Trigger) → length (ids_from first ts) ≡ length ts
length_ids first [] = refl
length_ids first (t ∷ ts) = ap suc (length_ids (first + 1) ts)

id_from : (first : ℕ) (ts : List Trigger) (k d : ℕ) → k < length ts → get_or (ids_from first ts) k d ≡ first + k
id_from first [] k d l = absurd (omega arith)
id_from first (t ∷ ts) zero d l = omega arith
id_from first (t ∷ ts) (suc k) d l = let ih : get_or (ids_from (first + 1) ts) k d ≡ (first + 1) + k = id_from (first + 1) ts k d (omega arith) in omega arith

id_at : (ts : List Trigger) (k id : ℕ) → k < length ts → id ≡ k + 1 → id ≡ get_or (ids_from 1 ts) k 0
id_at ts k id l e = let a : get_or (ids_from 1 ts) k 0 ≡ 1 + k = id_from 1 ts k 0 l in omega arith

map_push : (f : ℕ → List ℕ) (xs : List ℕ) (x : ℕ) → map f (xs ++ x ∷ []) ≡ map f xs ++ f x ∷ []
map_push f [] x = refl
map_push f (y ∷ xs) x = ap (λ ys. f y ∷ ys) (map_push f xs x)

-- one trigger more
pub masters_more : (conf : Conf) (k id : ℕ) (ms : List ℕ) (rows next : List (List ℕ)) → k < length conf.triggers → id ≡ k + 1 → ms ≡ masters_of conf id
    → rows ≡ [] ∷ map (masters_of conf) (take k (ids_from 1 conf.triggers)) → next ≡ rows ++ ms ∷ [] → next ≡ [] ∷ map (masters_of conf) (take (k + 1) (ids_from 1 conf.triggers))
masters_more conf k id ms rows next l n m r e =
    let ids : List ℕ = ids_from 1 conf.triggers in
    let more : take (k + 1) ids ≡ take k ids ++ id ∷ [] = take_more ids k 0 (let s = length_ids 1 conf.triggers in omega arith) ∙ ap (λ x. take k ids ++ x ∷ []) (sym (id_at conf.triggers k id l n)) in
    e ∙ ap (λ rs. rs ++ ms ∷ []) r ∙ ap (λ xs. [] ∷ (map (masters_of conf) (take k ids) ++ xs ∷ [])) m ∙ ap (λ xs. [] ∷ xs) (sym (map_push (masters_of conf) (take k ids) id)) ∙ ap (λ xs. [] ∷ map (masters_of conf) xs) (sym more)

row_there : (f : ℕ → List ℕ) (first : ℕ) (ts : List Trigger) (k : ℕ) (t : Trigger) → slice_get ts k ≡ Some t → get_or (map f (ids_from first ts)) k [] ≡ f (first + k)
row_there f first [] k t e = cc
row_there f first (x ∷ ts) zero t e = let n : first ≡ first + 0 = omega arith in ap f n
row_there f first (x ∷ ts) (suc k) t e = let n : (first + 1) + k ≡ first + suc k = omega arith in row_there f (first + 1) ts k t e ∙ ap f n

row_absent : (f : ℕ → List ℕ) (first : ℕ) (ts : List Trigger) (k : ℕ) → slice_get ts k ≡ None → get_or (map f (ids_from first ts)) k [] ≡ []
row_absent f first [] k e = refl
row_absent f first (x ∷ ts) zero e = cc
row_absent f first (x ∷ ts) (suc k) e = row_absent f (first + 1) ts k e

-- the rows of all triggers, by ids
listed_masters : (conf : Conf) (rows : List (List ℕ)) → rows ≡ [] ∷ map (masters_of conf) (ids_from 1 conf.triggers) → (id : ℕ) → listed rows id ≡ masters_of conf id
listed_masters conf rows e zero = ap (λ rs. listed rs 0) e ∙ sym (no_masters conf 0 (ap depends_by (at_zero conf.triggers)))
listed_masters conf rows e (suc k) = ap (λ rs. listed rs (suc k)) e ∙ go (slice_get conf.triggers k) refl
  where
    go : (o : Option Trigger) → slice_get conf.triggers k ≡ o → get_or (map (masters_of conf) (ids_from 1 conf.triggers)) k [] ≡ masters_of conf (suc k)
    go None q = row_absent (masters_of conf) 1 conf.triggers k q ∙ sym (no_masters conf (suc k) (ap depends_by (at_suc conf.triggers k ∙ q)))
    go (Some t) q = let n : 1 + k ≡ suc k = omega arith in row_there (masters_of conf) 1 conf.triggers k t q ∙ ap (masters_of conf) n

-- and once all triggers are there
pub all_masters : (conf : Conf) (k : ℕ) (rows : List (List ℕ)) → length conf.triggers ≤ k → rows ≡ [] ∷ map (masters_of conf) (take k (ids_from 1 conf.triggers)) → (id : ℕ) → listed rows id ≡ masters_of conf id
all_masters conf k rows l e = listed_masters conf rows (e ∙ ap (λ ids. [] ∷ map (masters_of conf) ids) (take_all k (ids_from 1 conf.triggers) (let s = length_ids 1 conf.triggers in omega arith)))
