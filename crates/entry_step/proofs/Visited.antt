-- What a value visits is in its foot, and what a visit stores asks triggers over it.
use Rattle.std.proofs.Common.{◌≡◌, ◌<◌, ◌-◌, ◌==◌, inl, inr, ℕ, zero, suc, Bool, true, false, cond, Option, Some, None, List, [], ◌∷◌, ◌++◌, length, filter, flat_map, is_some, refl, sym, ◌∙◌, ap, subst, eqb-true, eq-eqb, arith}
use Rattle.std.specs.List.{list_any, AllByRecursion}
use Rattle.std.proofs.lemmas.Option.{slice_get_within}
use Rattle.zbx_types.specs.Ids.{at_id}
use Rattle.zbx_types.specs.Masters.{has_id}
use Rattle.zbx_types.specs.declared.conf.Conf.{Conf}
use Rattle.zbx_types.specs.declared.items.Item.{Item}
use Rattle.zbx_types.specs.declared.triggers.Trigger.{Trigger}
use Rattle.zbx_types.specs.declared.entries.Entry.{Entry}
use Rattle.zbx_types.specs.declared.entries.Entry.TheVariants.{Config, Value, Tick}
use Rattle.prep_steps.specs.declared.memory.StepMemory.{StepMemory}
use Rattle.value_cache.specs.Tokens.{TokenView}
use Rattle.preprocess.specs.Visits.{visited}
use Rattle.preprocess.specs.Walks.{takes}
use Rattle.zbx_types.specs.Items.{is_received_item}
use Rattle.preprocess.specs.Draft.{stored_at, stored_of as stored_by, visit_at}
use Rattle.preprocess.specs.declared.visit.Visit.{Visit}
use Rattle.preprocess.proofs.Apart.{Under, depends_by, master_by as master_in, all_map}
use Rattle.preprocess.proofs.Local.{Below, visited_below, visits_all, visits_same, visit_off}
use Rattle.footprint.specs.Rows.{is_one}
use Rattle.footprint.specs.Feet.{master_by, chain, is_under, is_of, over_of, foot_has_item, feet_of}
use Rattle.entry_step.specs.Each.{Each, In}
use Rattle.conf_index.specs.Order.{order}
use Rattle.entry_step.specs.History.{visits_at, stored_of}
use Rattle.entry_step.specs.Records.{has_call, is_over, stores, triggers_at}
use Rattle.entry_step.specs.Cells.{ItemKey, touches}
use Rattle.conf_index.specs.Index.{with_masters, is_over_below, triggers_under}
use Rattle.entry_step.specs.Changes.{is_asked}
use Rattle.entry_step.proofs.Members.{or_left, or_right, and_left, and_right, and_both, each_filter, any_intro, any_elim}
use Rattle.entry_step.proofs.Feet.{there, has_of, has_over}
use Rattle.zbx_types.proofs.RowLemmas.{at_zero, at_suc}

-- ---- the items below an item

same_master : (o : Option Item) → master_in o ≡ master_by o
same_master None = refl
same_master (Some item) = refl

depends_there : (o : Option Item) → depends_by o ≡ true → (x : Item) × (o ≡ Some x)
depends_there None e = cc
depends_there (Some x) e = (x, refl)

takes_there : (conf : Conf) (item : ℕ) → takes conf item ≡ true → (x : Item) × (at_id conf.items item ≡ Some x)
takes_there conf item t = go (at_id conf.items item) t
  where
    go : (o : Option Item) → is_received_item o ≡ true → (x : Item) × (o ≡ Some x)
    go None e = cc
    go (Some x) e = (x, refl)

-- an item so many dependences below another one has it among its masters
chain_has : (conf : Conf) (s fuel top x : ℕ) (y : Item) → at_id conf.items top ≡ Some y → s < fuel → Under conf s top x → has_id (chain conf fuel x) top ≡ true
unfolding chain
chain_has conf s zero top x y e l u = absurd (omega (arith, l))
chain_has conf zero (suc fuel) top x y e l u =
    let s : is_some (at_id conf.items top) ≡ true = ap is_some e in
    subst (λ z. has_id (chain conf (suc fuel) z) top ≡ true) (sym u) (rw s (or_left (top == top) (has_id (chain conf fuel (master_by (at_id conf.items top))) top) (eq-eqb top top refl)))
chain_has conf (suc s) (suc fuel) top x y e l u =
    let at = depends_there (at_id conf.items x) u.0 in
    let some : is_some (at_id conf.items x) ≡ true = ap is_some at.1 in
    let below : Under conf s top (master_by (at_id conf.items x)) = subst (Under conf s top) (same_master (at_id conf.items x)) u.1 in
    rw some (or_right (x == top) (has_id (chain conf fuel (master_by (at_id conf.items x))) top) (chain_has conf s fuel top (master_by (at_id conf.items x)) y e (omega (arith, l)) below))

-- an item is there, and under another one
abbrev pub IsIn : Conf → ℕ → ℕ → Type 0
IsIn conf item i = (is_some (at_id conf.items i) ≡ true) × (is_under conf item i ≡ true)

pub one_in : (conf : Conf) (i : ℕ) → is_some (at_id conf.items i) ≡ true → is_one conf.items i ≡ true
one_in conf i e = go (at_id conf.items i) refl e
  where
    go : (o : Option Item) → at_id conf.items i ≡ o → is_some o ≡ true → is_one conf.items i ≡ true
    go None q s = cc
    go (Some x) q s = there conf.items i x q

below_in : (conf : Conf) (item : ℕ) (y : Item) → at_id conf.items item ≡ Some y → (x : ℕ) → Below conf (length conf.items - 1) item x → IsIn conf item x
below_in conf item y e x p =
    let own = there conf.items item y e in
    (one p.0 p.2, and_both (is_one conf.items item) (has_id (chain conf (length conf.items) x) item) own (chain_has conf p.0 (length conf.items) item x y e (fits item e) p.2))
  where
    one : (s : ℕ) → Under conf s item x → is_some (at_id conf.items x) ≡ true
    one zero u = subst (λ z. is_some (at_id conf.items z) ≡ true) (sym u) (ap is_some e)
    one (suc s) u = ap is_some (depends_there (at_id conf.items x) u.0).1

    fits : (id : ℕ) → at_id conf.items id ≡ Some y → p.0 < length conf.items
    fits zero q = let z : None ≡ Some y = sym (at_zero conf.items) ∙ q in cc
    fits (suc k) q = let l = slice_get_within conf.items k y (sym (at_suc conf.items k) ∙ q) in let m = p.1 in omega (arith, l, m)

visited_in : (conf : Conf) (item : ℕ) → takes conf item ≡ true → AllByRecursion (IsIn conf item) (visited conf (length conf.items - 1) item)
visited_in conf item t =
    let at = takes_there conf item t in
    all_map (Below conf (length conf.items - 1) item) (IsIn conf item) (λ x p. below_in conf item at.0 at.1 x p) (visited conf (length conf.items - 1) item) (visited_below conf (length conf.items - 1) item)

-- ---- what is visited is in the foot

in_touched : (conf : Conf) (now item time : ℕ) (value : List ℕ) (i : ℕ) → IsIn conf item i → touches conf (Value now item time value) (ItemKey i) ≡ true
unfolding touches
in_touched conf now item time value i p =
    or_right (i == item) (has_id ((feet_of conf).items item) i)
    (has_of conf.items (foot_has_item conf item) i (one_in conf i p.0) (or_left (is_under conf item i) (list_any (λ t. is_of conf t i) (over_of conf item)) p.1))

abbrev pub Memory : Type 0
Memory = ℕ → ℕ → StepMemory

visits_in : (conf : Conf) (memory : Memory) (number now item time : ℕ) (value : List ℕ) → AllByRecursion (λ v. IsIn conf item v.item) (visits_at conf memory number (Value now item time value))
visits_in conf memory number now item time value = visits_all (IsIn conf item) conf memory (record { item = item; time = time; number = number; value = value }) (visited_in conf item)

visits_touched : (conf : Conf) (memory : Memory) (number : ℕ) (entry : Entry) → AllByRecursion (λ v. touches conf entry (ItemKey v.item) ≡ true) (visits_at conf memory number entry)
visits_touched conf memory number (Config now text) = tt
visits_touched conf memory number (Tick now) = tt
visits_touched conf memory number (Value now item time value) =
    all_map (λ v. IsIn conf item v.item) (λ v. touches conf (Value now item time value) (ItemKey v.item) ≡ true) (λ v p. in_touched conf now item time value v.item p)
    (visits_at conf memory number (Value now item time value)) (visits_in conf memory number now item time value)

visits_there : (conf : Conf) (memory : Memory) (number : ℕ) (entry : Entry) → AllByRecursion (λ v. is_some (at_id conf.items v.item) ≡ true) (visits_at conf memory number entry)
visits_there conf memory number (Config now text) = tt
visits_there conf memory number (Tick now) = tt
visits_there conf memory number (Value now item time value) =
    all_map (λ v. IsIn conf item v.item) (λ v. is_some (at_id conf.items v.item) ≡ true) (λ v p. p.0) (visits_at conf memory number (Value now item time value)) (visits_in conf memory number now item time value)

-- an item that isn't touched isn't visited, and neither is one that isn't there
pub untouched : (conf : Conf) (memory : Memory) (number : ℕ) (entry : Entry) (i : ℕ) → touches conf entry (ItemKey i) ≡ false → visit_at (visits_at conf memory number entry) i ≡ None
untouched conf memory number entry i f = visit_off (λ j. touches conf entry (ItemKey j)) (visits_at conf memory number entry) i (visits_touched conf memory number entry) f

pub absent : (conf : Conf) (memory : Memory) (number : ℕ) (entry : Entry) (i : ℕ) → at_id conf.items i ≡ None → visit_at (visits_at conf memory number entry) i ≡ None
absent conf memory number entry i e = visit_off (λ j. is_some (at_id conf.items j)) (visits_at conf memory number entry) i (visits_there conf memory number entry) (ap is_some e)

-- the visits are the same over memories that agree on the foot
pub visits_local : (conf : Conf) (a b : Memory) (number : ℕ) (entry : Entry) → ((i : ℕ) → touches conf entry (ItemKey i) ≡ true → a i ≡ b i) → visits_at conf a number entry ≡ visits_at conf b number entry
visits_local conf a b number (Config now text) h = refl
visits_local conf a b number (Tick now) h = refl
visits_local conf a b number (Value now item time value) h =
    visits_same conf a b (record { item = item; time = time; number = number; value = value })
    (λ t. all_map (IsIn conf item) (λ j. a j ≡ b j) (λ j p. h j (in_touched conf now item time value j p)) (visited conf (length conf.items - 1) item) (visited_in conf item t))

-- ---- the triggers over what is stored

stored_in : (P : ℕ → Type 0) (visits : List Visit) (i : ℕ) → AllByRecursion (λ v. P v.item) visits → is_some (stored_at visits i) ≡ true → P i
stored_in P [] i all h = cc
stored_in P (v ∷ visits) i all h = go (v.item == i) refl h (stored_in P visits i all.1)
  where
    go : (b : Bool) → (v.item == i) ≡ b → is_some (stored_by (cond b (Some v) (visit_at visits i))) ≡ true → (is_some (stored_at visits i) ≡ true → P i) → P i
    go true e s ih = subst P (eqb-true v.item i e) all.0
    go false e s ih = ih s

pub stores_in : (conf : Conf) (memory : Memory) (number now item time : ℕ) (value : List ℕ) (i : ℕ) → stores conf memory number (Value now item time value) i ≡ true → IsIn conf item i
unfolding stored_of
stores_in conf memory number now item time value i h = stored_in (IsIn conf item) (visits_at conf memory number (Value now item time value)) i (visits_in conf memory number now item time value) h

-- a trigger that has a call over an item of some, all under one, is over that one
call_over : (conf : Conf) (item id : ℕ) (test : ℕ → Bool) → ((i : ℕ) → test i ≡ true → IsIn conf item i) → has_call test (at_id conf.triggers id) ≡ true
    → (trigger : Trigger) × (at_id conf.triggers id ≡ Some trigger) × (trigger.enabled ≡ true) × ((i : ℕ) × In i trigger.call_items × IsIn conf item i)
call_over conf item id test h c = go (at_id conf.triggers id) refl c
  where
    go : (o : Option Trigger) → at_id conf.triggers id ≡ o → has_call test o ≡ true → (trigger : Trigger) × (at_id conf.triggers id ≡ Some trigger) × (trigger.enabled ≡ true) × ((i : ℕ) × In i trigger.call_items × IsIn conf item i)
    go None q e = cc
    go (Some trigger) q e =
        let r = any_elim test trigger.call_items (and_right trigger.enabled (list_any test trigger.call_items) e) in
        (trigger, q, and_left trigger.enabled (list_any test trigger.call_items) e, (r.0, r.1, h r.0 r.2))

pub asked_over : (conf : Conf) (memory : Memory) (number now item time : ℕ) (value : List ℕ) (id : ℕ) → has_call (stores conf memory number (Value now item time value)) (at_id conf.triggers id) ≡ true → has_id (over_of conf item) id ≡ true
asked_over conf memory number now item time value id c =
    let r = call_over conf item id (stores conf memory number (Value now item time value)) (stores_in conf memory number now item time value) c in
    let trigger : Trigger = r.0 in
    let i : ℕ = (r.3).0 in
    has_over conf item i id (one_in conf i ((r.3).2).0) ((r.3).2).1
    (ap (is_over i) r.1 ∙ and_both trigger.enabled (list_any (λ x. x == i) trigger.call_items) r.2 (any_intro (λ x. x == i) i trigger.call_items (r.3).1 (eq-eqb i i refl)))

pub each_triggered : (conf : Conf) (memory : Memory) (number now item time : ℕ) (value : List ℕ) (P : ℕ → Type 0) → ((id : ℕ) → In id (order conf) → has_id (over_of conf item) id ≡ true → P id) → Each P (triggers_at conf memory number (Value now item time value))
unfolding triggers_at
each_triggered conf memory number now item time value P h =
    each_filter P (λ id. has_call (stores conf memory number (Value now item time value)) (at_id conf.triggers id)) (order conf) (λ id j t. h id j (asked_over conf memory number now item time value id t))

-- ---- and they are among the triggers that are listed for the item

any_flat : (test : ℕ → Bool) (f : ℕ → List ℕ) (xs : List ℕ) (x : ℕ) → In x xs → list_any test (f x) ≡ true → list_any test (flat_map f xs) ≡ true
any_flat test f xs x i e = let r = any_elim test (f x) e in any_intro test r.0 (flat_map f xs) (in_flat xs r.0 i r.1) r.2
  where
    front : (ys zs : List ℕ) (y : ℕ) → In y ys → In y (ys ++ zs)
    front [] zs y j = absurd j
    front (z ∷ ys) zs y (inl q) = inl q
    front (z ∷ ys) zs y (inr j) = inr (front ys zs y j)

    behind : (ys zs : List ℕ) (y : ℕ) → In y zs → In y (ys ++ zs)
    behind [] zs y j = j
    behind (z ∷ ys) zs y j = inr (behind ys zs y j)

    in_flat : (ys : List ℕ) (y : ℕ) → In x ys → In y (f x) → In y (flat_map f ys)
    in_flat [] y j k = absurd j
    in_flat (z ∷ ys) y (inl q) k = front (f z) (flat_map f ys) y (subst (λ w. In y (f w)) q k)
    in_flat (z ∷ ys) y (inr j) k = behind (f z) (flat_map f ys) y (in_flat ys y j k)

asked_below : (conf : Conf) (memory : Memory) (number now item time : ℕ) (value : List ℕ) (id : ℕ) → has_call (stores conf memory number (Value now item time value)) (at_id conf.triggers id) ≡ true → is_over_below conf item (at_id conf.triggers id) ≡ true
asked_below conf memory number now item time value id c =
    let r = call_over conf item id (stores conf memory number (Value now item time value)) (stores_in conf memory number now item time value) c in
    let trigger : Trigger = r.0 in
    let i : ℕ = (r.3).0 in
    ap (is_over_below conf item) r.1
    ∙ and_both trigger.enabled (list_any (λ x. x == item) (with_masters conf trigger.call_items)) r.2
    (any_flat (λ x. x == item) (chain conf (length conf.items)) trigger.call_items i (r.3).1 (and_right (is_one conf.items item) (has_id (chain conf (length conf.items) i) item) ((r.3).2).1))

filter_filter : (p q : ℕ → Bool) (xs : List ℕ) → ((x : ℕ) → p x ≡ true → q x ≡ true) → filter p (filter q xs) ≡ filter p xs
filter_filter p q [] h = refl
filter_filter p q (x ∷ xs) h = go (p x) refl (q x) refl (filter_filter p q xs h)
  where
    go : (a : Bool) → p x ≡ a → (b : Bool) → q x ≡ b → filter p (filter q xs) ≡ filter p xs → filter p (cond b (x ∷ filter q xs) (filter q xs)) ≡ cond a (x ∷ filter p xs) (filter p xs)
    go true e true f ih = rw e (ap (λ ys. x ∷ ys) ih)
    go true e false f ih = let z = h x e in cc
    go false e true f ih = rw e ih
    go false e false f ih = ih

pub triggers_listed : (conf : Conf) (memory : Memory) (number now item time : ℕ) (value : List ℕ) (tokens : List TokenView)
    → filter (is_asked conf (Some (record { visits = visits_at conf memory number (Value now item time value); tokens = tokens }))) (triggers_under conf item) ≡ triggers_at conf memory number (Value now item time value)
unfolding triggers_at triggers_under stored_of
triggers_listed conf memory number now item time value tokens =
    filter_filter (λ id. has_call (stores conf memory number (Value now item time value)) (at_id conf.triggers id)) (λ id. is_over_below conf item (at_id conf.triggers id)) (order conf)
    (λ id e. asked_below conf memory number now item time value id e)
