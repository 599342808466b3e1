-- Masters: the search along dependencies, the chains, and the walk that finds them.
use Rattle.std.proofs.Common.{◌≡◌, ◌<◌, ◌≤◌, ◌+◌, ◌-◌, ◌∙◌, ℕ, zero, suc, ◌==◌, ◌⊎◌, inl, inr, Bool, true, false, cond, ◌&&◌, ◌||◌, List, [], ◌∷◌, ◌++◌, length, get_or, filter, Option, Some, None, refl, sym, ap, subst, arith, eqb-true, eq-eqb, ne_eqb}
use Rattle.std.specs.Prelude.{nat_le, nat_lt, slice_get, Result, IfOk}
use Rattle.std.specs.List.{list_any, list_all}
use Rattle.std.specs.Bool.{Decides}
use Rattle.std.specs.BTreeMap.{is_at}
use Rattle.std.specs.BTreeSet.{BTreeSet, contains, Updates}
use Rattle.std.specs.Cmp.{nat_cmp_total, nat_eq_equiv, unsigned_tied}
use Rattle.std.specs.List.{AllByRecursion}
use Rattle.std.specs.List.Sorted.{IsStrictlySortedBy}
use Rattle.std.specs.Ordering.{nat_cmp}
use Rattle.std.specs.declared.cmp.Ordering.TheVariants.{Less, Equal, Greater}
use Rattle.std.proofs.lemmas.List.Kept.{IsStrictlySortedBy-filter}
use Rattle.std.proofs.lemmas.Map.Lookups.{btree_set_from_contains, exact_unsigned}
use Rattle.std.proofs.lemmas.List.Folds.{list_any-append}
use Rattle.std.proofs.lemmas.Option.{slice_get_within, slice_get-get_or, get_or_from_slice_get}
use Rattle.std.proofs.lemmas.Bool.{le-leb, lt-ltb, ltb-true, cases_lt}
use Rattle.zbx_types.specs.Ids.{at_id, ids_from}
use Rattle.zbx_types.specs.Masters.{has_id, depends_by, depends_of, depth_by, depth_of, DepthsFall, are_below, depths_fall, reaches, is_master, masters_of, IsMaster, MastersByChains, noted, entered, HasKeys, Finds}
use Rattle.zbx_types.specs.Masters.IsMaster.{direct, further}
use Rattle.zbx_types.specs.declared.conf.Conf.{Conf}
use Rattle.zbx_types.specs.declared.triggers.Trigger.{Trigger}

or_cases : (a b : Bool) → (a || b) ≡ true → (a ≡ true) ⊎ (b ≡ true)
or_cases true b e = inl refl
or_cases false b e = inr e

or_left : (a b : Bool) → a ≡ true → (a || b) ≡ true
or_left true b e = refl
or_left false b e = cc

or_right : (a b : Bool) → b ≡ true → (a || b) ≡ true
or_right true b e = refl
or_right false b e = e

-- an item of a list that passes a test
any_of : (p : ℕ → Bool) (xs : List ℕ) → list_any p xs ≡ true → (x : ℕ) × (has_id xs x ≡ true) × (p x ≡ true)
any_of p [] e = cc
any_of p (x ∷ xs) e = go (or_cases (p x) (list_any p xs) e) (any_of p xs)
  where
    go : (p x ≡ true) ⊎ (list_any p xs ≡ true) → (list_any p xs ≡ true → (y : ℕ) × (has_id xs y ≡ true) × (p y ≡ true)) → (y : ℕ) × (has_id (x ∷ xs) y ≡ true) × (p y ≡ true)
    go (inl t) ih = (x, or_left (x == x) (has_id xs x) (eq-eqb x x refl), t)
    go (inr t) ih = let r = ih t in (r.0, or_right (x == r.0) (has_id xs r.0) r.1, r.2)

any_by : (p : ℕ → Bool) (xs : List ℕ) (x : ℕ) → has_id xs x ≡ true → p x ≡ true → list_any p xs ≡ true
any_by p [] x h e = h
any_by p (y ∷ ys) x h e = go (or_cases (y == x) (has_id ys x) h) (λ t. any_by p ys x t e)
  where
    go : ((y == x) ≡ true) ⊎ (has_id ys x ≡ true) → (has_id ys x ≡ true → list_any p ys ≡ true) → (p y || list_any p ys) ≡ true
    go (inl t) ih = or_left (p y) (list_any p ys) (ap p (eqb-true y x t) ∙ e)
    go (inr t) ih = or_right (p y) (list_any p ys) (ih t)

-- The search
reach_head : (conf : Conf) (f from m to : ℕ) → has_id (depends_of conf from) m ≡ true → ((m == to) || reaches conf f m to) ≡ true → reaches conf (suc f) from to ≡ true
unfolding reaches
reach_head conf f from m to h e = any_by (λ x. (x == to) || reaches conf f x to) (depends_of conf from) m h e

reach_first : (conf : Conf) (f from to : ℕ) → reaches conf (suc f) from to ≡ true → (m : ℕ) × (has_id (depends_of conf from) m ≡ true) × (((m == to) || reaches conf f m to) ≡ true)
unfolding reaches
reach_first conf f from to e = any_of (λ x. (x == to) || reaches conf f x to) (depends_of conf from) e

reach_out : (conf : Conf) (id f to : ℕ) → depends_of conf id ≡ [] → reaches conf (suc f) id to ≡ false
unfolding reaches
reach_out conf id f to e = ap (λ xs. list_any (λ x. (x == to) || reaches conf f x to) xs) e

reach_none : (conf : Conf) (from to : ℕ) → reaches conf zero from to ≡ false
unfolding reaches
reach_none conf from to = refl

-- one more dependency behind
reach_more : (conf : Conf) (f from m to : ℕ) → reaches conf f from m ≡ true → has_id (depends_of conf m) to ≡ true → reaches conf (suc f) from to ≡ true
reach_more conf zero from m to e h = let n = reach_none conf from m in cc
reach_more conf (suc f) from m to e h =
    let first = reach_first conf f from m e in
    reach_head conf (suc f) from first.0 to first.1 (or_right (first.0 == to) (reaches conf (suc f) first.0 to) (go first.0 (or_cases (first.0 == m) (reaches conf f first.0 m) first.2) (λ t. reach_more conf f first.0 m to t h)))
  where
    go : (x : ℕ) → ((x == m) ≡ true) ⊎ (reaches conf f x m ≡ true) → (reaches conf f x m ≡ true → reaches conf (suc f) x to ≡ true) → reaches conf (suc f) x to ≡ true
    go x (inl t) ih = reach_head conf f x to to (subst (λ y. has_id (depends_of conf y) to ≡ true) (sym (eqb-true x m t)) h) (or_left (to == to) (reaches conf f to to) (eq-eqb to to refl))
    go x (inr t) ih = ih t

reach_fuel : (conf : Conf) (f g from to : ℕ) → f ≤ g → reaches conf f from to ≡ true → reaches conf g from to ≡ true
reach_fuel conf zero g from to l e = let n = reach_none conf from to in cc
reach_fuel conf (suc f) zero from to l e = absurd (omega arith)
reach_fuel conf (suc f) (suc g) from to l e =
    let first = reach_first conf f from to e in
    reach_head conf g from first.0 to first.1 (go first.0 (or_cases (first.0 == to) (reaches conf f first.0 to) first.2) (λ t. reach_fuel conf f g first.0 to (omega arith) t))
  where
    go : (x : ℕ) → ((x == to) ≡ true) ⊎ (reaches conf f x to ≡ true) → (reaches conf f x to ≡ true → reaches conf g x to ≡ true) → ((x == to) || reaches conf g x to) ≡ true
    go x (inl t) ih = or_left (x == to) (reaches conf g x to) t
    go x (inr t) ih = or_right (x == to) (reaches conf g x to) (ih t)

-- the depth bounds each chain
reach_depth : (conf : Conf) → DepthsFall conf → (f from to : ℕ) → reaches conf f from to ≡ true → is_master conf from to ≡ true
reach_depth conf falls zero from to e = let n = reach_none conf from to in cc
reach_depth conf falls (suc f) from to e =
    let first = reach_first conf f from to e in
    go (depth_of conf from) refl first.0 first.1 (or_cases (first.0 == to) (reaches conf f first.0 to) first.2) (reach_depth conf falls f first.0 to)
  where
    go : (d : ℕ) → depth_of conf from ≡ d → (x : ℕ) → has_id (depends_of conf from) x ≡ true → ((x == to) ≡ true) ⊎ (reaches conf f x to ≡ true) → (reaches conf f x to ≡ true → is_master conf x to ≡ true)
        → reaches conf (depth_of conf from) from to ≡ true
    go zero q x h s ih = let less = falls from x h in absurd (omega arith)
    go (suc d) q x h (inl t) ih = subst (λ n. reaches conf n from to ≡ true) (sym q) (reach_head conf d from x to h (or_left (x == to) (reaches conf d x to) t))
    go (suc d) q x h (inr t) ih =
        let less = falls from x h in
        subst (λ n. reaches conf n from to ≡ true) (sym q)
        (reach_head conf d from x to h (or_right (x == to) (reaches conf d x to) (reach_fuel conf (depth_of conf x) d x to (omega arith) (ih t))))

-- Chains
chain_front : (conf : Conf) (id m to : ℕ) → has_id (depends_of conf id) m ≡ true → IsMaster conf m to → IsMaster conf id to
chain_front conf id m to h (direct x e) = further m x (direct m h) e
chain_front conf id m to h (further x y c e) = further x y (chain_front conf id m x h c) e

chain_reach : (conf : Conf) (f from to : ℕ) → reaches conf f from to ≡ true → IsMaster conf from to
chain_reach conf zero from to e = let n = reach_none conf from to in absurd (cc)
chain_reach conf (suc f) from to e =
    let first = reach_first conf f from to e in
    go first.0 first.1 (or_cases (first.0 == to) (reaches conf f first.0 to) first.2) (chain_reach conf f first.0 to)
  where
    go : (x : ℕ) → has_id (depends_of conf from) x ≡ true → ((x == to) ≡ true) ⊎ (reaches conf f x to ≡ true) → (reaches conf f x to ≡ true → IsMaster conf x to) → IsMaster conf from to
    go x h (inl t) ih = direct to (subst (λ y. has_id (depends_of conf from) y ≡ true) (eqb-true x to t) h)
    go x h (inr t) ih = chain_front conf from x to h (ih t)

pub master_direct : (conf : Conf) → DepthsFall conf → (id m : ℕ) → has_id (depends_of conf id) m ≡ true → is_master conf id m ≡ true
master_direct conf falls id m h = reach_depth conf falls 1 id m (reach_head conf 0 id m m h (or_left (m == m) (reaches conf 0 m m) (eq-eqb m m refl)))

pub master_further : (conf : Conf) → DepthsFall conf → (id m next : ℕ) → is_master conf id m ≡ true → has_id (depends_of conf m) next ≡ true → is_master conf id next ≡ true
master_further conf falls id m next e h = reach_depth conf falls (suc (depth_of conf id)) id next (reach_more conf (depth_of conf id) id m next e h)

chain_master : (conf : Conf) → DepthsFall conf → (id m : ℕ) → IsMaster conf id m → is_master conf id m ≡ true
chain_master conf falls id m (direct x e) = master_direct conf falls id x e
chain_master conf falls id m (further x y c e) = master_further conf falls id x y (chain_master conf falls id x c) e

pub masters_by_chains : MastersByChains
masters_by_chains conf falls id m = (chain_reach conf (depth_of conf id) id m, chain_master conf falls id m)

-- The walk: ids that are found
abbrev pub Covers : ℕ → List ℕ → List ℕ → Type 0
Covers size found ids = (x : ℕ) → has_id ids x ≡ true → (x ≡ 0 → ⊥) → x ≤ size → has_id found x ≡ true

has_push : (xs : List ℕ) (y x : ℕ) → has_id (xs ++ y ∷ []) x ≡ (has_id xs x || ((y == x) || false))
has_push xs y x = list_any-append (λ z. z == x) xs (y ∷ [])

-- noting an id: it adds nothing, or the id behind the others
pub noted_cases : (size : ℕ) (found : List ℕ) (id : ℕ) → (noted size found id ≡ found) ⊎ (noted size found id ≡ found ++ id ∷ [])
noted_cases size found id = go (id == 0) (nat_le id size) (has_id found id)
  where
    go : (a b c : Bool) → (cond a found (cond b (cond c found (found ++ id ∷ [])) found) ≡ found) ⊎ (cond a found (cond b (cond c found (found ++ id ∷ [])) found) ≡ found ++ id ∷ [])
    go true b c = inl refl
    go false false c = inl refl
    go false true true = inl refl
    go false true false = inr refl

noted_keeps : (size : ℕ) (found : List ℕ) (id x : ℕ) → has_id found x ≡ true → has_id (noted size found id) x ≡ true
noted_keeps size found id x h = go (noted_cases size found id)
  where
    go : (noted size found id ≡ found) ⊎ (noted size found id ≡ found ++ id ∷ []) → has_id (noted size found id) x ≡ true
    go (inl e) = ap (λ xs. has_id xs x) e ∙ h
    go (inr e) = ap (λ xs. has_id xs x) e ∙ has_push found id x ∙ or_left (has_id found x) ((id == x) || false) h

noted_only : (size : ℕ) (found : List ℕ) (id x : ℕ) → has_id (noted size found id) x ≡ true → (has_id found x ≡ true) ⊎ ((id == x) ≡ true)
noted_only size found id x h = go (noted_cases size found id)
  where
    last : (b : Bool) → (b || false) ≡ true → b ≡ true
    last true e = refl
    last false e = e

    side : (has_id found x ≡ true) ⊎ (((id == x) || false) ≡ true) → (has_id found x ≡ true) ⊎ ((id == x) ≡ true)
    side (inl e) = inl e
    side (inr e) = inr (last (id == x) e)

    go : (noted size found id ≡ found) ⊎ (noted size found id ≡ found ++ id ∷ []) → (has_id found x ≡ true) ⊎ ((id == x) ≡ true)
    go (inl e) = inl (sym (ap (λ xs. has_id xs x) e) ∙ h)
    go (inr e) = side (or_cases (has_id found x) ((id == x) || false) (sym (has_push found id x) ∙ sym (ap (λ xs. has_id xs x) e) ∙ h))

noted_has : (size : ℕ) (found : List ℕ) (id : ℕ) → (id ≡ 0 → ⊥) → id ≤ size → has_id (noted size found id) id ≡ true
noted_has size found id some within = go (id == 0) (nat_le id size) (has_id found id) refl (le-leb id size within) refl
  where
    go : (a b c : Bool) → (id == 0) ≡ a → b ≡ true → has_id found id ≡ c → has_id (cond a found (cond b (cond c found (found ++ id ∷ [])) found)) id ≡ true
    go true b c ea eb ec = absurd (some (eqb-true id 0 ea))
    go false true true ea eb ec = ec
    go false true false ea eb ec = has_push found id id ∙ or_right (has_id found id) ((id == id) || false) (or_left (id == id) false (eq-eqb id id refl))
    go false false c ea eb ec = cc

entered_keeps : (size : ℕ) (found ids : List ℕ) (x : ℕ) → has_id found x ≡ true → has_id (entered size found ids) x ≡ true
entered_keeps size found [] x h = h
entered_keeps size found (id ∷ ids) x h = entered_keeps size (noted size found id) ids x (noted_keeps size found id x h)

entered_has : (size : ℕ) (found ids : List ℕ) → Covers size (entered size found ids) ids
entered_has size found [] x h some within = absurd (cc)
entered_has size found (id ∷ ids) x h some within = go (or_cases (id == x) (has_id ids x) h) (λ e. entered_has size (noted size found id) ids x e some within)
  where
    go : ((id == x) ≡ true) ⊎ (has_id ids x ≡ true) → (has_id ids x ≡ true → has_id (entered size (noted size found id) ids) x ≡ true) → has_id (entered size (noted size found id) ids) x ≡ true
    go (inl e) ih = let q = eqb-true id x e in entered_keeps size (noted size found id) ids x
        (subst (λ y. has_id (noted size found id) y ≡ true) q (noted_has size found id (λ z. some (sym q ∙ z)) (subst (λ y. y ≤ size) (sym q) within)))
    go (inr e) ih = ih e

entered_only : (size : ℕ) (found ids : List ℕ) (x : ℕ) → has_id (entered size found ids) x ≡ true → (has_id found x ≡ true) ⊎ (has_id ids x ≡ true)
entered_only size found [] x h = inl h
entered_only size found (id ∷ ids) x h = go (entered_only size (noted size found id) ids x h)
  where
    side : (has_id found x ≡ true) ⊎ ((id == x) ≡ true) → (has_id found x ≡ true) ⊎ (has_id (id ∷ ids) x ≡ true)
    side (inl e) = inl e
    side (inr e) = inr (or_left (id == x) (has_id ids x) e)

    go : (has_id (noted size found id) x ≡ true) ⊎ (has_id ids x ≡ true) → (has_id found x ≡ true) ⊎ (has_id (id ∷ ids) x ≡ true)
    go (inl e) = side (noted_only size found id x e)
    go (inr e) = inr (or_right (id == x) (has_id ids x) e)

-- what is found stays in its place
entered_place : (size : ℕ) (found ids : List ℕ) (k : ℕ) → k < length found → (get_or (entered size found ids) k 0 ≡ get_or found k 0) × (length found ≤ length (entered size found ids))
entered_place size found [] k l = (refl, omega arith)
entered_place size found (id ∷ ids) k l =
    let step = go (noted_cases size found id) in
    let rest = entered_place size (noted size found id) ids k (omega arith) in
    (rest.0 ∙ step.0, omega arith)
  where
    first : (xs : List ℕ) (j : ℕ) → j < length xs → (get_or (xs ++ id ∷ []) j 0 ≡ get_or xs j 0) × (length xs ≤ length (xs ++ id ∷ []))
    first [] j l = absurd (omega arith)
    first (y ∷ ys) zero l = (refl, long ys)
      where
        long : (zs : List ℕ) → length (y ∷ zs) ≤ length (y ∷ (zs ++ id ∷ []))
        long [] = omega arith
        long (z ∷ zs) = omega (arith, long zs)
    first (y ∷ ys) (suc j) l = let r = first ys j (omega arith) in (r.0, omega arith)

    go : (noted size found id ≡ found) ⊎ (noted size found id ≡ found ++ id ∷ []) → (get_or (noted size found id) k 0 ≡ get_or found k 0) × (length found ≤ length (noted size found id))
    go (inl e) = (ap (λ xs. get_or xs k 0) e, let q = ap length e in omega arith)
    go (inr e) = let r = first found k l in (ap (λ xs. get_or xs k 0) e ∙ r.0, let q = ap length e in omega arith)

-- The walk: places
-- what is found are masters; what the trigger depends on is found, and what each before this place depends on
pub record Walks (conf : Conf) (id place : ℕ) (found : List ℕ) : Type 0 where
  pub within : place ≤ length found
  pub sound : (m : ℕ) → has_id found m ≡ true → is_master conf id m ≡ true
  pub start : Covers (length conf.triggers) found (depends_of conf id)
  pub closed : (k : ℕ) → k < place → Covers (length conf.triggers) found (depends_of conf (get_or found k 0))

has_get : (xs : List ℕ) (k : ℕ) → k < length xs → has_id xs (get_or xs k 0) ≡ true
has_get [] k l = absurd (omega arith)
has_get (x ∷ xs) zero l = or_left (x == x) (has_id xs x) (eq-eqb x x refl)
has_get (x ∷ xs) (suc k) l = or_right (x == get_or xs k 0) (has_id xs (get_or xs k 0)) (has_get xs k (omega arith))

place_of : (xs : List ℕ) (x : ℕ) → has_id xs x ≡ true → (k : ℕ) × (k < length xs) × (get_or xs k 0 ≡ x)
place_of [] x e = cc
place_of (y ∷ ys) x e = go (or_cases (y == x) (has_id ys x) e) (place_of ys x)
  where
    go : ((y == x) ≡ true) ⊎ (has_id ys x ≡ true) → (has_id ys x ≡ true → (k : ℕ) × (k < length ys) × (get_or ys k 0 ≡ x)) → (k : ℕ) × (k < length (y ∷ ys)) × (get_or (y ∷ ys) k 0 ≡ x)
    go (inl t) ih = (0, omega arith, eqb-true y x t)
    go (inr t) ih = let r = ih t in (suc r.0, omega arith, r.2)

pub walk_begun : (conf : Conf) (id : ℕ) → DepthsFall conf → Walks conf id 0 (entered (length conf.triggers) [] (depends_of conf id))
walk_begun conf id falls = record {
  within = omega arith;
  sound = λ m h. go m (entered_only (length conf.triggers) [] (depends_of conf id) m h);
  start = entered_has (length conf.triggers) [] (depends_of conf id);
  closed = λ k l. absurd (omega arith);
}
  where
    go : (m : ℕ) → (has_id [] m ≡ true) ⊎ (has_id (depends_of conf id) m ≡ true) → is_master conf id m ≡ true
    go m (inl e) = cc
    go m (inr e) = master_direct conf falls id m e

pub walk_on : (conf : Conf) (id place : ℕ) (found : List ℕ) → DepthsFall conf → place < length found → Walks conf id place found
    → Walks conf id (place + 1) (entered (length conf.triggers) found (depends_of conf (get_or found place 0)))
walk_on conf id place found falls l w = record {
  within = let r = entered_place size found ids place l in omega arith;
  sound = λ m h. go m (entered_only size found ids m h);
  start = λ x h some within. entered_keeps size found ids x (w.start x h some within);
  closed = λ k less. at k (cases_lt k place) less;
}
  where
    size : ℕ
    size = length conf.triggers

    ids : List ℕ
    ids = depends_of conf (get_or found place 0)

    go : (m : ℕ) → (has_id found m ≡ true) ⊎ (has_id ids m ≡ true) → is_master conf id m ≡ true
    go m (inl e) = w.sound m e
    go m (inr e) = master_further conf falls id (get_or found place 0) m (w.sound (get_or found place 0) (has_get found place l)) e

    same : (k : ℕ) → k < length found → Covers size (entered size found ids) (depends_of conf (get_or found k 0)) → Covers size (entered size found ids) (depends_of conf (get_or (entered size found ids) k 0))
    same k less c = subst (λ m. Covers size (entered size found ids) (depends_of conf m)) (sym (entered_place size found ids k less).0) c

    at : (k : ℕ) → (k < place) ⊎ (place ≤ k) → k < place + 1 → Covers size (entered size found ids) (depends_of conf (get_or (entered size found ids) k 0))
    at k (inl before) less = same k (omega arith) (λ x h some within. entered_keeps size found ids x (w.closed k before x h some within))
    at k (inr here) less = let q : place ≡ k = omega arith in same k (omega arith) (subst (λ j. Covers size (entered size found ids) (depends_of conf (get_or found j 0))) q (entered_has size found ids))

past_end : (xs : List Trigger) (k : ℕ) → length xs ≤ k → slice_get xs k ≡ None
past_end [] k l = refl
past_end (x ∷ xs) zero l = absurd (omega arith)
past_end (x ∷ xs) (suc k) l = past_end xs k (omega arith)

absent : (conf : Conf) (x : ℕ) → ((x ≡ 0 → ⊥) → x ≤ length conf.triggers → ⊥) → at_id conf.triggers x ≡ None
unfolding at_id
absent conf x out = none (x == 0) refl
  where
    side : (x ≡ 0 → ⊥) → (length conf.triggers < x) ⊎ (x ≤ length conf.triggers) → slice_get conf.triggers (x - 1) ≡ None
    side some (inl more) = past_end conf.triggers (x - 1) (omega arith)
    side some (inr less) = absurd (out some less)

    none : (b : Bool) → (x == 0) ≡ b → cond b None (slice_get conf.triggers (x - 1)) ≡ None
    none true e = refl
    none false e = side (λ z. let t = eq-eqb x 0 z in cc) (cases_lt (length conf.triggers) x)

-- of a trigger that isn't there
none_needed : (conf : Conf) (x : ℕ) (found : List ℕ) → at_id conf.triggers x ≡ None → Covers (length conf.triggers) found (depends_of conf x)
none_needed conf x found e y i some within = let k : has_id (depends_by None) y ≡ true = subst (λ o. has_id (depends_by o) y ≡ true) e i in cc

-- a list that covers what its ids depend on has all that is reached
all_reached : (conf : Conf) (found : List ℕ) → ((m : ℕ) → has_id found m ≡ true → Covers (length conf.triggers) found (depends_of conf m))
    → (f from to : ℕ) → Covers (length conf.triggers) found (depends_of conf from) → (to ≡ 0 → ⊥) → to ≤ length conf.triggers → reaches conf f from to ≡ true → has_id found to ≡ true
all_reached conf found closed zero from to c some within e = let n = reach_none conf from to in cc
all_reached conf found closed (suc f) from to c some within e =
    let first = reach_first conf f from to e in
    go first.0 first.1 (or_cases (first.0 == to) (reaches conf f first.0 to) first.2) (λ d t. all_reached conf found closed f first.0 to d some within t)
  where
    size : ℕ
    size = length conf.triggers

    covered : (x : ℕ) → has_id (depends_of conf from) x ≡ true → (b : Bool) → (x == 0) ≡ b → (size < x) ⊎ (x ≤ size) → Covers size found (depends_of conf x)
    covered x h true eb s = none_needed conf x found (absent conf x (λ some less. some (eqb-true x 0 eb)))
    covered x h false eb (inl more) = none_needed conf x found (absent conf x (λ some less. omega arith))
    covered x h false eb (inr less) = closed x (c x h (λ z. let t = eq-eqb x 0 z in cc) less)

    go : (x : ℕ) → has_id (depends_of conf from) x ≡ true → ((x == to) ≡ true) ⊎ (reaches conf f x to ≡ true) → (Covers size found (depends_of conf x) → reaches conf f x to ≡ true → has_id found to ≡ true) → has_id found to ≡ true
    go x h (inl t) ih = c to (subst (λ y. has_id (depends_of conf from) y ≡ true) (eqb-true x to t) h) some within
    go x h (inr t) ih = ih (covered x h (x == 0) refl (cases_lt size x)) t

pub walk_done : (conf : Conf) (id place : ℕ) (found : List ℕ) → length found ≤ place → Walks conf id place found → Finds conf id found
walk_done conf id place found l w = record {
  sound = w.sound;
  whole = λ m some within e. all_reached conf found closed (depth_of conf id) id m w.start some within e;
}
  where
    closed : (m : ℕ) → has_id found m ≡ true → Covers (length conf.triggers) found (depends_of conf m)
    closed m h = let p = place_of found m h in subst (λ x. Covers (length conf.triggers) found (depends_of conf x)) p.2 (w.closed p.0 (omega arith))

pub walk_begins : (conf : Conf) (id size : ℕ) (before ids found : List ℕ) → DepthsFall conf → size ≡ length conf.triggers → before ≡ [] → ids ≡ depends_of conf id → found ≡ entered size before ids → Walks conf id 0 found
walk_begins conf id size before ids found falls s b d e = subst (λ xs. Walks conf id 0 xs) (sym (e ∙ same)) (walk_begun conf id falls)
  where
    same : entered size before ids ≡ entered (length conf.triggers) [] (depends_of conf id)
    same = cc

pub walk_goes : (conf : Conf) (id size place m : ℕ) (found ids next : List ℕ) → DepthsFall conf → size ≡ length conf.triggers → slice_get found place ≡ Some m → ids ≡ depends_of conf m → next ≡ entered size found ids → Walks conf id place found
    → Walks conf id (place + 1) next
walk_goes conf id size place m found ids next falls s at d e w =
    subst (λ xs. Walks conf id (place + 1) xs) (sym (e ∙ same)) (walk_on conf id place found falls (slice_get_within found place m at) w)
  where
    same : entered size found ids ≡ entered (length conf.triggers) found (depends_of conf (get_or found place 0))
    same = let q : get_or found place 0 ≡ m = get_or_from_slice_get found place m 0 at in cc

pub walk_ends : (conf : Conf) (id place : ℕ) (found : List ℕ) → slice_get found place ≡ None → Walks conf id place found → Finds conf id found
walk_ends conf id place found e w = walk_done conf id place found (side (cases_lt place (length found))) w
  where
    side : (place < length found) ⊎ (length found ≤ place) → length found ≤ place
    side (inl less) = let q = slice_get-get_or found place 0 less in absurd (let z : None ≡ Some (get_or found place 0) = sym e ∙ q in cc)
    side (inr more) = more

-- The keys
is_key : (x q : ℕ) → is_at (nat_cmp q) x ≡ (x == q)
is_key x q = unsigned_tied q x ∙ nat_eq_equiv.symm q x

has_key : (keys : List ℕ) (q : ℕ) → list_any (is_at (nat_cmp q)) keys ≡ has_id keys q
has_key [] q = refl
has_key (k ∷ keys) q = ap (λ b. b || list_any (is_at (nat_cmp q)) keys) (is_key k q) ∙ ap (λ b. (k == q) || b) (has_key keys q)

pub no_keys : (count : ℕ) (keys found : List ℕ) → keys ≡ [] → found ≡ [] → HasKeys count keys found
no_keys count keys found e f = record { agree = λ id. ap (λ xs. has_id xs id) (e ∙ sym f); within = λ id h. let t = ap (λ xs. has_id xs id) f in cc }

pub one_key_more : (count : ℕ) (old new : BTreeSet ℕ) (found next : List ℕ) (id : ℕ) → HasKeys count old.keys found → (id ≡ 0 → ⊥) → id ≤ count → Updates nat_cmp old new id true → next ≡ found ++ id ∷ [] → HasKeys count new.keys next
one_key_more count old new found next id h some within up is = record { agree = same; within = there }
  where
    pushed : (q : ℕ) → has_id next q ≡ (has_id found q || ((id == q) || false))
    pushed q = ap (λ xs. has_id xs q) is ∙ has_push found id q

    turned : (a b c d : Bool) → a ≡ b → c ≡ d → cond a true c ≡ (d || (b || false))
    turned true true c true e f = refl
    turned true true c false e f = refl
    turned false false true true e f = refl
    turned false false false false e f = refl
    turned true false c d e f = cc
    turned false true c d e f = cc
    turned false false true false e f = cc
    turned false false false true e f = cc

    same : (q : ℕ) → has_id new.keys q ≡ has_id next q
    same q = sym (has_key new.keys q) ∙ up.0 q ∙ turned (is_at (nat_cmp id) q) (id == q) (contains nat_cmp old q) (has_id found q) (unsigned_tied id q) (has_key old.keys q ∙ h.agree q) ∙ sym (pushed q)

    last : (b : Bool) → (b || false) ≡ true → b ≡ true
    last true e = refl
    last false e = e

    there : (q : ℕ) → has_id next q ≡ true → (q ≡ 0 → ⊥) × (q ≤ count)
    there q t = go (or_cases (has_id found q) ((id == q) || false) (sym (pushed q) ∙ t))
      where
        go : (has_id found q ≡ true) ⊎ (((id == q) || false) ≡ true) → (q ≡ 0 → ⊥) × (q ≤ count)
        go (inl e) = h.within q e
        go (inr e) = let k = eqb-true id q (last (id == q) e) in (λ z. some (k ∙ z), subst (λ x. x ≤ count) k within)

-- an id that isn't noted
pub noted_zero : (size : ℕ) (found : List ℕ) (id : ℕ) → (id == 0) ≡ true → found ≡ noted size found id
noted_zero size found id e = ap (λ b. cond b found (cond (nat_le id size) (cond (has_id found id) found (found ++ id ∷ [])) found)) (sym e)

pub noted_new : (size : ℕ) (found : List ℕ) (id : ℕ) → (id == 0) ≡ false → id ≤ size → has_id found id ≡ false → found ++ id ∷ [] ≡ noted size found id
noted_new size found id a b c = rw a (rw (le-leb id size b) (rw c refl))

-- the ids of triggers
ids_above : {A : Type 0} (n from : ℕ) (xs : List A) → n < from → AllByRecursion (λ y. nat_cmp n y ≡ Less) (ids_from from xs)
ids_above n from [] l = tt
ids_above n from (x ∷ xs) l = (ap (λ b. cond b Less (cond (n == from) Equal Greater)) (lt-ltb n from l), ids_above n (from + 1) xs (omega arith))

ids_rise : {A : Type 0} (from : ℕ) (xs : List A) → IsStrictlySortedBy nat_cmp (ids_from from xs)
unfolding IsStrictlySortedBy
ids_rise from [] = tt
ids_rise from (x ∷ xs) = (ids_above from (from + 1) xs (omega arith), ids_rise (from + 1) xs)

ids_there : {A : Type 0} (from : ℕ) (xs : List A) (q : ℕ) → from ≤ q → q < from + length xs → has_id (ids_from from xs) q ≡ true
ids_there from [] q l m = absurd (omega arith)
ids_there from (x ∷ xs) q l m = go (cases_lt from q) (ids_there (from + 1) xs q)
  where
    go : (from < q) ⊎ (q ≤ from) → (from + 1 ≤ q → q < from + 1 + length xs → has_id (ids_from (from + 1) xs) q ≡ true) → ((from == q) || has_id (ids_from (from + 1) xs) q) ≡ true
    go (inl less) ih = or_right (from == q) (has_id (ids_from (from + 1) xs) q) (ih (omega arith) (omega arith))
    go (inr more) ih = or_left (from == q) (has_id (ids_from (from + 1) xs) q) (eq-eqb from q (omega arith))

ids_only : {A : Type 0} (from : ℕ) (xs : List A) (q : ℕ) → has_id (ids_from from xs) q ≡ true → (from ≤ q) × (q < from + length xs)
ids_only from [] q h = cc
ids_only from (x ∷ xs) q h = go (or_cases (from == q) (has_id (ids_from (from + 1) xs) q) h) (ids_only (from + 1) xs q)
  where
    go : ((from == q) ≡ true) ⊎ (has_id (ids_from (from + 1) xs) q ≡ true) → (has_id (ids_from (from + 1) xs) q ≡ true → (from + 1 ≤ q) × (q < from + 1 + length xs)) → (from ≤ q) × (q < from + length (x ∷ xs))
    go (inl e) ih = let k = eqb-true from q e in (omega arith, omega arith)
    go (inr e) ih = let r = ih e in (omega arith, omega arith)

filter_has : (p : ℕ → Bool) (xs : List ℕ) (q : ℕ) → has_id xs q ≡ true → p q ≡ true → has_id (filter p xs) q ≡ true
filter_has p [] q h e = h
filter_has p (x ∷ xs) q h e = go (p x) refl (or_cases (x == q) (has_id xs q) h) (filter_has p xs q)
  where
    go : (b : Bool) → p x ≡ b → ((x == q) ≡ true) ⊎ (has_id xs q ≡ true) → (has_id xs q ≡ true → p q ≡ true → has_id (filter p xs) q ≡ true) → has_id (cond b (x ∷ filter p xs) (filter p xs)) q ≡ true
    go true pe (inl t) ih = or_left (x == q) (has_id (filter p xs) q) t
    go true pe (inr t) ih = or_right (x == q) (has_id (filter p xs) q) (ih t e)
    go false pe (inl t) ih = let k = ap p (eqb-true x q t) in cc
    go false pe (inr t) ih = ih t e

filter_only : (p : ℕ → Bool) (xs : List ℕ) (q : ℕ) → has_id (filter p xs) q ≡ true → (has_id xs q ≡ true) × (p q ≡ true)
filter_only p [] q h = cc
filter_only p (x ∷ xs) q h = go (p x) refl h (filter_only p xs q)
  where
    side : p x ≡ true → ((x == q) ≡ true) ⊎ (has_id (filter p xs) q ≡ true) → (has_id (filter p xs) q ≡ true → (has_id xs q ≡ true) × (p q ≡ true)) → (has_id (x ∷ xs) q ≡ true) × (p q ≡ true)
    side pe (inl t) ih = (or_left (x == q) (has_id xs q) t, sym (ap p (eqb-true x q t)) ∙ pe)
    side pe (inr t) ih = let r = ih t in (or_right (x == q) (has_id xs q) r.0, r.1)

    go : (b : Bool) → p x ≡ b → has_id (cond b (x ∷ filter p xs) (filter p xs)) q ≡ true → (has_id (filter p xs) q ≡ true → (has_id xs q ≡ true) × (p q ≡ true)) → (has_id (x ∷ xs) q ≡ true) × (p q ≡ true)
    go true pe t ih = side pe (or_cases (x == q) (has_id (filter p xs) q) t) ih
    go false pe t ih = let r = ih t in (or_right (x == q) (has_id xs q) r.0, r.1)

-- a set whose keys are what was found holds the masters, in their order
masters_keys : (conf : Conf) (id : ℕ) (s : BTreeSet ℕ) (found : List ℕ) → IsStrictlySortedBy nat_cmp s.keys → HasKeys (length conf.triggers) s.keys found → Finds conf id found → s.keys ≡ masters_of conf id
masters_keys conf id s found sorted keys finds = btree_set_from_contains nat_cmp_total s masters sorted (IsStrictlySortedBy-filter nat_cmp (is_master conf id) (ids_from 1 conf.triggers) (ids_rise 1 conf.triggers)) same exact_unsigned
  where
    masters : BTreeSet ℕ
    masters = record { keys = masters_of conf id }

    both : (a b : Bool) → (a ≡ true → b ≡ true) → (b ≡ true → a ≡ true) → a ≡ b
    both true b f g = sym (f refl)
    both false true f g = g refl
    both false false f g = refl

    in_masters : (q : ℕ) → has_id found q ≡ true → has_id (masters_of conf id) q ≡ true
    in_masters q h = let w = keys.within q h in filter_has (is_master conf id) (ids_from 1 conf.triggers) q (ids_there 1 conf.triggers q (go q w.0) (omega (arith, w.1))) (finds.sound q h)
      where
        go : (x : ℕ) → (x ≡ 0 → ⊥) → 1 ≤ x
        go zero f = absurd (f refl)
        go (suc x) f = omega arith

    in_found : (q : ℕ) → has_id (masters_of conf id) q ≡ true → has_id found q ≡ true
    in_found q h = let r = filter_only (is_master conf id) (ids_from 1 conf.triggers) q h in let l = ids_only 1 conf.triggers q r.0 in finds.whole q (λ z. omega arith) (omega arith) r.1

    same : (q : ℕ) → contains nat_cmp s q ≡ contains nat_cmp masters q
    same q = has_key s.keys q ∙ keys.agree q ∙ both (has_id found q) (has_id (masters_of conf id) q) (in_masters q) (in_found q) ∙ sym (has_key (masters_of conf id) q)

-- a trigger that depends on none has no masters
pub no_masters : (conf : Conf) (id : ℕ) → depends_of conf id ≡ [] → masters_of conf id ≡ []
no_masters conf id e = all_out (ids_from 1 conf.triggers)
  where
    none : (f to : ℕ) → reaches conf f id to ≡ false
    none zero to = reach_none conf id to
    none (suc f) to = reach_out conf id f to e

    all_out : (ids : List ℕ) → filter (is_master conf id) ids ≡ []
    all_out [] = refl
    all_out (x ∷ ids) = rw (none (depth_of conf id) x) (all_out ids)

pub then_masters : {E : Type 0} (r : Result (List ℕ) E) (conf : Conf) (id : ℕ) (s : BTreeSet ℕ) (found : List ℕ) → IsStrictlySortedBy nat_cmp s.keys → HasKeys (length conf.triggers) s.keys found → Finds conf id found
    → IfOk r (λ ids. ids ≡ s.keys) → IfOk r (λ ids. ids ≡ masters_of conf id)
then_masters r conf id s found sorted keys finds h = subst (λ xs. IfOk r (λ ids. ids ≡ xs)) (masters_keys conf id s found sorted keys finds) h

pub empty_is : (xs : List ℕ) → (length xs == 0) ≡ true → xs ≡ []
empty_is [] e = refl
empty_is (x ∷ xs) e = let q = eqb-true (length (x ∷ xs)) 0 e in absurd (omega arith)

-- The test of depths
all_below : (conf : Conf) (depth m : ℕ) (ids : List ℕ) → are_below conf depth ids ≡ true → has_id ids m ≡ true → depth_of conf m < depth
all_below conf depth m [] e h = cc
all_below conf depth m (x ∷ ids) e h = go (nat_lt (depth_of conf x) depth) refl e (or_cases (x == m) (has_id ids m) h) (all_below conf depth m ids)
  where
    go : (b : Bool) → nat_lt (depth_of conf x) depth ≡ b → (b && are_below conf depth ids) ≡ true → ((x == m) ≡ true) ⊎ (has_id ids m ≡ true) → (are_below conf depth ids ≡ true → has_id ids m ≡ true → depth_of conf m < depth) → depth_of conf m < depth
    go true l q (inl t) ih = subst (λ y. depth_of conf y < depth) (eqb-true x m t) (ltb-true (depth_of conf x) depth l)
    go true l q (inr t) ih = ih q t
    go false l q s ih = cc

below_all : (conf : Conf) (depth : ℕ) (ids : List ℕ) → ((m : ℕ) → has_id ids m ≡ true → depth_of conf m < depth) → are_below conf depth ids ≡ true
below_all conf depth [] h = refl
below_all conf depth (x ∷ ids) h =
    let first : nat_lt (depth_of conf x) depth ≡ true = lt-ltb (depth_of conf x) depth (h x (or_left (x == x) (has_id ids x) (eq-eqb x x refl))) in
    rw first (below_all conf depth ids (λ m i. h m (or_right (x == m) (has_id ids m) i)))

all_at : (conf : Conf) (ts : List Trigger) (k : ℕ) (t : Trigger) → list_all (λ x. are_below conf x.depth x.depends) ts ≡ true → slice_get ts k ≡ Some t → are_below conf t.depth t.depends ≡ true
all_at conf [] k t e h = let z : None ≡ Some t = h in cc
all_at conf (x ∷ ts) k t e h = go (are_below conf x.depth x.depends) refl e k h (all_at conf ts)
  where
    go : (b : Bool) → are_below conf x.depth x.depends ≡ b → (b && list_all (λ y. are_below conf y.depth y.depends) ts) ≡ true → (j : ℕ) → slice_get (x ∷ ts) j ≡ Some t
        → ((j : ℕ) (y : Trigger) → list_all (λ y. are_below conf y.depth y.depends) ts ≡ true → slice_get ts j ≡ Some y → are_below conf y.depth y.depends ≡ true) → are_below conf t.depth t.depends ≡ true
    go true l q zero h ih = subst (λ (o : Option Trigger). unwrapped o) h l
      where
        unwrapped : Option Trigger → Type 0
        unwrapped None = ⊥
        unwrapped (Some y) = are_below conf y.depth y.depends ≡ true
    go true l q (suc j) h ih = ih j t q h
    go false l q j h ih = cc

at_all : (conf : Conf) (ts : List Trigger) → ((k : ℕ) (t : Trigger) → slice_get ts k ≡ Some t → are_below conf t.depth t.depends ≡ true) → list_all (λ x. are_below conf x.depth x.depends) ts ≡ true
at_all conf [] h = refl
at_all conf (x ∷ ts) h = let first = h 0 x refl in rw first (at_all conf ts (λ k t e. h (suc k) t e))

pub fall_decided : (conf : Conf) → Decides (depths_fall conf) (DepthsFall conf)
unfolding at_id
fall_decided conf = (λ e id m h. go id e (id == 0) (slice_get conf.triggers (id - 1)) refl refl m h, λ falls. at_all conf conf.triggers (λ k t e. below_all conf t.depth t.depends (λ m h. back falls k t e m h)))
  where
    Lower : Option Trigger → ℕ → Type 0
    Lower o m = depth_of conf m < depth_by o

    go : (id : ℕ) → depths_fall conf ≡ true → (b : Bool) (o : Option Trigger) → (id == 0) ≡ b → slice_get conf.triggers (id - 1) ≡ o → (m : ℕ) → has_id (depends_of conf id) m ≡ true → depth_of conf m < depth_of conf id
    go id e b o eb eo m h = at b o eb eo (subst (λ x. has_id (depends_by x) m ≡ true) (is b o eb eo) h)
      where
        is : (b : Bool) (o : Option Trigger) → (id == 0) ≡ b → slice_get conf.triggers (id - 1) ≡ o → at_id conf.triggers id ≡ cond b None o
        is b o eb eo = ap (λ c. cond c None (slice_get conf.triggers (id - 1))) eb ∙ ap (λ x. cond b None x) eo

        at : (b : Bool) (o : Option Trigger) → (id == 0) ≡ b → slice_get conf.triggers (id - 1) ≡ o → has_id (depends_by (cond b None o)) m ≡ true → depth_of conf m < depth_of conf id
        at true o eb eo i = cc
        at false None eb eo i = cc
        at false (Some t) eb eo i = subst (λ x. Lower x m) (sym (is false (Some t) eb eo)) (all_below conf t.depth m t.depends (all_at conf conf.triggers (id - 1) t e eo) i)

    back : DepthsFall conf → (k : ℕ) (t : Trigger) → slice_get conf.triggers k ≡ Some t → (m : ℕ) → has_id t.depends m ≡ true → depth_of conf m < t.depth
    back falls k t e m h =
        let q : at_id conf.triggers (suc k) ≡ Some t =
        ap (λ (b : Bool). cond b None (slice_get conf.triggers (suc k - 1))) (ne_eqb (suc k) 0 (λ z. omega arith)) ∙ ap (λ j. slice_get conf.triggers j) (let z : suc k - 1 ≡ k = omega arith in z) ∙ e in
        subst (λ o. Lower o m) q (falls (suc k) m (subst (λ o. has_id (depends_by o) m ≡ true) (sym q) h))
