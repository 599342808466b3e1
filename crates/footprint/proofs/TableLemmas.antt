-- Tables of a configuration.
use Rattle.std.proofs.Common.{◌≡◌, ◌<◌, ◌+◌, ◌-◌, ◌∙◌, ℕ, zero, suc, ◌==◌, Bool, true, false, cond, ◌&&◌, ◌||◌, List, [], ◌∷◌, ◌++◌, length, filter, map, drop, append_assoc, append-nil, Option, Some, None, refl, sym, ap, arith, eq-eqb, ne_eqb}
use Rattle.std.specs.Prelude.{nat_lt, slice_get, is_some}
use Rattle.std.specs.List.{list_any, list_all}
use Rattle.std.proofs.lemmas.List.Folds.{list_any-append}
use Rattle.std.proofs.lemmas.Bool.{lt-ltb, ltb-true}
use Rattle.zbx_types.specs.Ids.{at_id, ids_from}
use Rattle.zbx_types.specs.Masters.{has_id, is_master, masters_of}
use Rattle.zbx_types.specs.Reach.{reaches, in_reach}
use Rattle.zbx_types.specs.declared.conf.Conf.{Conf}
use Rattle.zbx_types.specs.declared.rules.Rule.{Rule}
use Rattle.zbx_types.specs.declared.triggers.Trigger.{Trigger}
use Rattle.footprint.specs.Rows.{row_at, those, is_one, held_by, IsTable, RowsRise, rises, rows_from, table_of}
use Rattle.footprint.specs.Feet.{chain, master_by, calls_by, is_under, under_of, is_of, over_of, is_over, foot_has_item, foot_has_trigger, foot_triggers, reach_by, is_reached, foot_has_mark, foot_marks, share_trigger, foot_meets_mark, Footing, told_by, feet_of}
use mathlib.Core.Path.{fun_ext}
use Rattle.footprint.specs.Reaches.{reached_from}
use Rattle.footprint.proofs.IdLemmas.{those_same, any_same, any_those, any_filter, has_those, those_none}
use Rattle.footprint.proofs.RowLemmas.{row_map}

pub reach_is : (rule : Rule) (trigger : Trigger) → in_reach rule trigger ≡ reaches rule.matching rule trigger.tags
unfolding in_reach
reach_is rule trigger = refl

-- chains
chain_there : (conf : Conf) (fuel id : ℕ) → is_some (at_id conf.items id) ≡ true → chain conf (suc fuel) id ≡ id ∷ chain conf fuel (master_by (at_id conf.items id))
unfolding chain
chain_there conf fuel id e = ap (λ b. cond b (id ∷ chain conf fuel (master_by (at_id conf.items id))) []) e

chain_none : (conf : Conf) (id : ℕ) → chain conf zero id ≡ []
unfolding chain
chain_none conf id = refl

chain_absent : (conf : Conf) (fuel id : ℕ) → is_some (at_id conf.items id) ≡ false → chain conf fuel id ≡ []
unfolding chain
chain_absent conf zero id e = refl
chain_absent conf (suc fuel) id e = ap (λ b. cond b (id ∷ chain conf fuel (master_by (at_id conf.items id))) []) e

pub chain_stops : (conf : Conf) (row whole : List ℕ) (fuel at : ℕ) → is_some (at_id conf.items at) ≡ false → row ++ chain conf fuel at ≡ whole → row ≡ whole
chain_stops conf row whole fuel at e kept = sym (ap (λ xs. row ++ xs) (chain_absent conf fuel at e) ∙ append-nil row) ∙ kept

pub chain_ends : (conf : Conf) (row whole : List ℕ) (fuel at : ℕ) → fuel ≡ 0 → row ++ chain conf fuel at ≡ whole → row ≡ whole
chain_ends conf row whole fuel at e kept = sym (ap (λ n. row ++ chain conf n at) e ∙ ap (λ xs. row ++ xs) (chain_none conf at) ∙ append-nil row) ∙ kept

pub chain_goes : (conf : Conf) (row made whole : List ℕ) (fuel less at next : ℕ) → fuel ≡ suc less → is_some (at_id conf.items at) ≡ true → made ≡ row ++ at ∷ [] → next ≡ master_by (at_id conf.items at) → row ++ chain conf fuel at ≡ whole → made ++ chain conf less next ≡ whole
chain_goes conf row made whole fuel less at next f e pushed master kept =
    ap (λ xs. xs ++ chain conf less next) pushed ∙ append_assoc row (at ∷ []) (chain conf less next) ∙ ap (λ n. row ++ at ∷ chain conf less n) master
    ∙ sym (ap (λ xs. row ++ xs) (ap (λ n. chain conf n at) f ∙ chain_there conf less at e)) ∙ kept

-- rows that are added one by one
rows_drop : {A : Type 0} (f : ℕ → List ℕ) (k place : ℕ) (all : List A) → place < length all → rows_from f k (drop place all) ≡ f k ∷ rows_from f (k + 1) (drop (suc place) all)
rows_drop f k place [] h = absurd (omega arith)
rows_drop f k zero (a ∷ all) h = refl
rows_drop f k (suc place) (a ∷ all) h = rows_drop f k place all (omega arith)

pub rows_go : {A : Type 0} (f : ℕ → List ℕ) (all : List A) (made next whole : List (List ℕ)) (row : List ℕ) (place : ℕ) → place < length all → next ≡ made ++ row ∷ [] → row ≡ f (place + 1) → made ++ rows_from f (place + 1) (drop place all) ≡ whole
    → next ++ rows_from f (place + 1 + 1) (drop (place + 1) all) ≡ whole
rows_go f all made next whole row place h pushed is kept =
    let up : place + 1 ≡ suc place = omega arith in
    ap (λ xs. xs ++ rows_from f (place + 1 + 1) (drop (place + 1) all)) pushed ∙ append_assoc made (row ∷ []) (rows_from f (place + 1 + 1) (drop (place + 1) all))
    ∙ ap (λ r. made ++ r ∷ rows_from f (place + 1 + 1) (drop (place + 1) all)) is
    ∙ ap (λ n. made ++ f (place + 1) ∷ rows_from f (place + 1 + 1) (drop n all)) up
    ∙ sym (ap (λ xs. made ++ xs) (rows_drop f (place + 1) place all h)) ∙ kept

-- rows of a table
row_from : {A : Type 0} (f : ℕ → List ℕ) (k j : ℕ) (all : List A) → j < length all → row_at (rows_from f k all) j ≡ f (k + j)
row_from f k j [] h = absurd (omega arith)
row_from f k zero (a ∷ all) h = ap f (let z : k ≡ k + 0 = omega arith in z)
row_from f k (suc j) (a ∷ all) h = row_from f (k + 1) j all (omega arith) ∙ ap f (let z : k + 1 + j ≡ k + suc j = omega arith in z)

one_up : {A : Type 0} (all : List A) (id : ℕ) → is_one all id ≡ true → (0 < id) × (id < length all + 1)
one_up all id e = go (nat_lt 0 id) (nat_lt id (length all + 1)) refl refl e
  where
    go : (a b : Bool) → nat_lt 0 id ≡ a → nat_lt id (length all + 1) ≡ b → (a && b) ≡ true → (0 < id) × (id < length all + 1)
    go true true p q r = (ltb-true 0 id p, ltb-true id (length all + 1) q)
    go true false p q r = cc
    go false b p q r = cc

pub row_table : {A : Type 0} (f : ℕ → List ℕ) (all : List A) (id : ℕ) → is_one all id ≡ true → row_at (table_of all f) id ≡ f id
row_table f all zero e = let o = one_up all zero e in absurd (let z = o.0 in omega arith)
row_table f all (suc j) e = let o = one_up all (suc j) e in row_from f 1 j all (let z = o.1 in omega arith) ∙ ap f (let z : 1 + j ≡ suc j = omega arith in z)

-- rows made of the parts of a list
abbrev pub row_by : {X : Type 0} → (X → List ℕ) → Option X → List ℕ
row_by g None = []
row_by g (Some x) = g x

row_each : {X : Type 0} (g : X → List ℕ) (xs : List X) (j : ℕ) → row_at (map g xs) j ≡ row_by g (slice_get xs j)
row_each g [] j = refl
row_each g (x ∷ xs) zero = refl
row_each g (x ∷ xs) (suc j) = row_each g xs j

pub row_list : {X : Type 0} (g : X → List ℕ) (xs : List X) (id : ℕ) → row_at ([] ∷ map g xs) id ≡ row_by g (at_id xs id)
unfolding at_id
row_list g xs zero = refl
row_list g xs (suc j) = row_each g xs j ∙ sym (ap (λ (b : Bool). row_by g (cond b None (slice_get xs (suc j - 1)))) (ne_eqb (suc j) 0 (λ z. omega arith)) ∙ ap (λ k. row_by g (slice_get xs k)) (let z : suc j - 1 ≡ j = omega arith in z))

pub length_rows : {A : Type 0} (f : ℕ → List ℕ) (k : ℕ) (all : List A) → length (rows_from f k all) ≡ length all
length_rows f k [] = refl
length_rows f k (a ∷ all) = ap suc (length_rows f (k + 1) all)

-- gathered rows
held_none : {A : Type 0} (all : List A) (table : List (List ℕ)) → held_by all table [] ≡ []
unfolding held_by
held_none all table = those_none 1 all

held_is : {A : Type 0} (all : List A) (table : List (List ℕ)) (ids : List ℕ) → held_by all table ids ≡ those all (λ x. list_any (λ id. has_id (row_at table id) x) ids)
unfolding held_by
held_is all table ids = refl

-- where a table's rows, at ids that a test tells, are told by a test
pub held_rows : {A B : Type 0} (all : List A) (among : List B) (table rows made : List (List ℕ)) (r p : ℕ → ℕ → Bool) → made ≡ map (held_by all table) rows → IsTable rows (λ id. those among (r id))
    → ((i x : ℕ) → is_one among i ≡ true → is_one all x ≡ true → has_id (row_at table i) x ≡ p i x) → IsTable made (λ id. those all (λ x. list_any (λ i. p i x) (those among (r id))))
held_rows all among table rows made r p e known same id =
    ap (λ rs. row_at rs id) e ∙ row_map (held_by all table) (held_none all table) rows id ∙ ap (held_by all table) (known id) ∙ held_is all table (those among (r id))
    ∙ those_same all (λ x. list_any (λ i. has_id (row_at table i) x) (those among (r id))) (λ x. list_any (λ i. p i x) (those among (r id)))
    (λ x one. any_those among (r id) (λ i. has_id (row_at table i) x) (λ i. p i x) (λ i inside. same i x inside one))

-- items under an item
pub under_is : (conf : Conf) (chains under : List (List ℕ)) → chains ≡ table_of conf.items (chain conf (length conf.items)) → IsTable under (λ id. those conf.items (λ one. is_one conf.items id && has_id (row_at chains one) id)) → IsTable under (under_of conf)
under_is conf chains under e known id =
    known id ∙ those_same conf.items (λ one. is_one conf.items id && has_id (row_at chains one) id) (is_under conf id)
    (λ one inside. ap (λ xs. is_one conf.items id && has_id xs id) (ap (λ rows. row_at rows one) e ∙ row_table (chain conf (length conf.items)) conf.items one inside))

calls_as : (o : Option Trigger) → row_by (λ (trigger : Trigger). trigger.call_items) o ≡ calls_by o
calls_as None = refl
calls_as (Some trigger) = refl

pub called_is : (conf : Conf) (called : List (List ℕ)) → called ≡ [] ∷ map (λ (trigger : Trigger). trigger.call_items) conf.triggers → IsTable called (λ t. calls_by (at_id conf.triggers t))
called_is conf called e t = ap (λ rows. row_at rows t) e ∙ row_list (λ (trigger : Trigger). trigger.call_items) conf.triggers t ∙ calls_as (at_id conf.triggers t)

-- triggers over an item
pub over_is : (conf : Conf) (called calls under over : List (List ℕ)) → IsTable called (λ t. calls_by (at_id conf.triggers t)) → IsTable under (under_of conf) → IsTable calls (λ id. those conf.triggers (λ one. is_one conf.items id && has_id (row_at called one) id))
    → over ≡ map (held_by conf.triggers calls) under → IsTable over (over_of conf)
over_is conf called calls under over called_as under_as calls_are e =
    held_rows conf.triggers conf.items calls under over (is_under conf) (λ i t. is_of conf t i) e under_as
    (λ i t inside one. ap (λ xs. has_id xs t) (calls_are i) ∙ has_those conf.triggers (λ t. is_one conf.items i && has_id (row_at called t) i) t
    ∙ ap (λ b. b && (is_one conf.items i && has_id (row_at called t) i)) one ∙ ap (λ b. b && has_id (row_at called t) i) inside ∙ ap (λ xs. has_id xs i) (called_as t))

-- the foot's items
pub foot_items_are : (conf : Conf) (called under over others made : List (List ℕ)) → IsTable called (λ t. calls_by (at_id conf.triggers t)) → IsTable under (under_of conf) → IsTable over (over_of conf)
    → others ≡ map (held_by conf.items called) over → IsTable made (λ id. those conf.items (has_id (row_at under id ++ row_at others id))) → IsTable made (λ item. those conf.items (foot_has_item conf item))
foot_items_are conf called under over others made called_as under_as over_as e known id =
    let rest : IsTable others (λ item. those conf.items (λ i. list_any (λ t. is_of conf t i) (over_of conf item))) =
    held_rows conf.items conf.triggers called over others (is_over conf) (λ t i. is_of conf t i) e over_as (λ t i inside one. ap (λ xs. has_id xs i) (called_as t)) in
    known id ∙ those_same conf.items (has_id (row_at under id ++ row_at others id)) (foot_has_item conf id)
    (λ i one.
    list_any-append (λ y. y == i) (row_at under id) (row_at others id)
    ∙ ap (λ xs. has_id xs i || has_id (row_at others id) i) (under_as id)
    ∙ ap (λ b. b || has_id (row_at others id) i) (has_those conf.items (is_under conf id) i ∙ ap (λ b. b && is_under conf id i) one)
    ∙ ap (λ b. is_under conf id i || b) (ap (λ xs. has_id xs i) (rest id) ∙ has_those conf.items (λ i. list_any (λ t. is_of conf t i) (over_of conf id)) i ∙ ap (λ b. b && list_any (λ t. is_of conf t i) (over_of conf id)) one))

-- its triggers
pub foot_triggers_are : (conf : Conf) (families over made : List (List ℕ)) → IsTable over (over_of conf) → families ≡ table_of conf.triggers (λ t. t ∷ masters_of conf t) → made ≡ map (held_by conf.triggers families) over → IsTable made (foot_triggers conf)
foot_triggers_are conf families over made over_as e f =
    held_rows conf.triggers conf.triggers families over made (is_over conf) (λ t u. (t == u) || is_master conf t u) f over_as
    (λ t u inside one. ap (λ xs. has_id xs u) (ap (λ rows. row_at rows t) e ∙ row_table (λ t. t ∷ masters_of conf t) conf.triggers t inside)
    ∙ ap (λ b. (t == u) || b) (has_those conf.triggers (is_master conf t) u ∙ ap (λ b. b && is_master conf t u) one))

-- its marks
reached_low : (trigger : Trigger) (k x : ℕ) (rules : List Rule) → x < k → has_id (reached_from trigger k rules) x ≡ false
reached_low trigger k x [] h = refl
reached_low trigger k x (rule ∷ rules) h = head (in_reach rule trigger) (reached_low trigger (k + 1) x rules (omega arith))
  where
    head : (b : Bool) → has_id (reached_from trigger (k + 1) rules) x ≡ false → has_id (cond b (k ∷ reached_from trigger (k + 1) rules) (reached_from trigger (k + 1) rules)) x ≡ false
    head true e = let n : (k == x) ≡ false = ne_eqb k x (λ z. absurd (omega arith)) in rw n e
    head false e = e

pub reached_has : (trigger : Trigger) (k r : ℕ) (rules : List Rule) → has_id (reached_from trigger k rules) (k + r) ≡ reach_by (slice_get rules r) (Some trigger)
reached_has trigger k r [] = refl
reached_has trigger k zero (rule ∷ rules) = go (in_reach rule trigger) (reached_low trigger (k + 1) (k + 0) rules (omega arith))
  where
    go : (b : Bool) → has_id (reached_from trigger (k + 1) rules) (k + 0) ≡ false → has_id (cond b (k ∷ reached_from trigger (k + 1) rules) (reached_from trigger (k + 1) rules)) (k + 0) ≡ b
    go true e = let n : (k == (k + 0)) ≡ true = eq-eqb k (k + 0) (omega arith) in rw n refl
    go false e = e
reached_has trigger k (suc r) (rule ∷ rules) = go (in_reach rule trigger) (reached_has trigger (k + 1) r rules)
  where
    up : k + 1 + r ≡ k + suc r
    up = omega arith

    go : (b : Bool) → has_id (reached_from trigger (k + 1) rules) (k + 1 + r) ≡ reach_by (slice_get rules r) (Some trigger) → has_id (cond b (k ∷ reached_from trigger (k + 1) rules) (reached_from trigger (k + 1) rules)) (k + suc r) ≡ reach_by (slice_get rules r) (Some trigger)
    go true e = let n : (k == (k + suc r)) ≡ false = ne_eqb k (k + suc r) (λ z. absurd (omega arith)) in rw n (ap (λ x. has_id (reached_from trigger (k + 1) rules) x) (sym up) ∙ e)
    go false e = ap (λ x. has_id (reached_from trigger (k + 1) rules) x) (sym up) ∙ e

reach_none : (o : Option Rule) → reach_by o None ≡ false
reach_none None = refl
reach_none (Some rule) = refl

at_up : {X : Type 0} (xs : List X) (j : ℕ) → at_id xs (suc j) ≡ slice_get xs j
unfolding at_id
at_up xs j = ap (λ (b : Bool). cond b None (slice_get xs (suc j - 1))) (ne_eqb (suc j) 0 (λ z. omega arith)) ∙ ap (λ k. slice_get xs k) (let z : suc j - 1 ≡ j = omega arith in z)

pub reached_is : (conf : Conf) (reached : List (List ℕ)) → reached ≡ [] ∷ map (λ trigger. reached_from trigger 1 conf.correlations) conf.triggers → (u rule : ℕ) → is_one conf.correlations rule ≡ true → has_id (row_at reached u) rule ≡ is_reached conf rule u
reached_is conf reached e u zero one = let o = one_up conf.correlations zero one in absurd (let z = o.0 in omega arith)
reached_is conf reached e u (suc r) one =
    ap (λ rows. has_id (row_at rows u) (suc r)) e ∙ ap (λ xs. has_id xs (suc r)) (row_list (λ trigger. reached_from trigger 1 conf.correlations) conf.triggers u)
    ∙ go (at_id conf.triggers u)
  where
    go : (o : Option Trigger) → has_id (row_by (λ trigger. reached_from trigger 1 conf.correlations) o) (suc r) ≡ reach_by (at_id conf.correlations (suc r)) o
    go None = sym (reach_none (at_id conf.correlations (suc r)))
    go (Some trigger) =
        ap (λ x. has_id (reached_from trigger 1 conf.correlations) x) (let z : suc r ≡ 1 + r = omega arith in z) ∙ reached_has trigger 1 r conf.correlations
        ∙ ap (λ o. reach_by o (Some trigger)) (sym (at_up conf.correlations r))

pub marks_are : (conf : Conf) (reached triggers made : List (List ℕ)) → reached ≡ [] ∷ map (λ trigger. reached_from trigger 1 conf.correlations) conf.triggers → IsTable triggers (foot_triggers conf) → made ≡ map (held_by conf.correlations reached) triggers → IsTable made (foot_marks conf)
marks_are conf reached triggers made e known f =
    held_rows conf.correlations conf.triggers reached triggers made (foot_has_trigger conf) (λ u rule. is_reached conf rule u) f known (λ u rule inside one. reached_is conf reached e u rule one)

pub met_are : (conf : Conf) (reached members shares own made : List (List ℕ)) → reached ≡ [] ∷ map (λ trigger. reached_from trigger 1 conf.correlations) conf.triggers
    → IsTable members (λ id. those conf.triggers (λ one. is_one conf.correlations id && has_id (row_at reached one) id)) → shares ≡ map (held_by conf.correlations reached) members → IsTable own (foot_marks conf)
    → made ≡ map (held_by conf.correlations shares) own → IsTable made (λ item. those conf.correlations (foot_meets_mark conf item))
met_are conf reached members shares own made e among f known g =
    held_rows conf.correlations conf.correlations shares own made (foot_has_mark conf) (share_trigger conf) g known
    (λ rule other inside one.
    let shared : IsTable shares (λ id. those conf.correlations (λ s. list_any (λ u. is_reached conf s u) (those conf.triggers (λ u. is_one conf.correlations id && has_id (row_at reached u) id)))) =
    held_rows conf.correlations conf.triggers reached members shares (λ id u. is_one conf.correlations id && has_id (row_at reached u) id) (λ u s. is_reached conf s u) f among (λ u s t o. reached_is conf reached e u s o) in
    ap (λ xs. has_id xs other) (shared rule)
    ∙ has_those conf.correlations (λ s. list_any (λ u. is_reached conf s u) (those conf.triggers (λ u. is_one conf.correlations rule && has_id (row_at reached u) rule))) other
    ∙ ap (λ b. b && list_any (λ u. is_reached conf other u) (those conf.triggers (λ u. is_one conf.correlations rule && has_id (row_at reached u) rule))) one
    ∙ any_filter (λ u. is_one conf.correlations rule && has_id (row_at reached u) rule) (λ u. is_reached conf other u) (ids_from 1 conf.triggers)
    ∙ any_same conf.triggers (λ u. (is_one conf.correlations rule && has_id (row_at reached u) rule) && is_reached conf other u) (λ u. is_reached conf rule u && is_reached conf other u)
    (λ u t. ap (λ b. (b && has_id (row_at reached u) rule) && is_reached conf other u) inside ∙ ap (λ b. b && is_reached conf other u) (reached_is conf reached e u rule inside)))

above : {A : Type 0} (p : ℕ → Bool) (n j : ℕ) (all : List A) → n < j → list_all (λ y. nat_lt n y) (filter p (ids_from j all)) ≡ true
above p n j [] h = refl
above p n j (a ∷ all) h = head (p j) (above p n (j + 1) all (omega arith))
  where
    head : (b : Bool) → list_all (λ y. nat_lt n y) (filter p (ids_from (j + 1) all)) ≡ true → list_all (λ y. nat_lt n y) (cond b (j ∷ filter p (ids_from (j + 1) all)) (filter p (ids_from (j + 1) all))) ≡ true
    head true e = let l : nat_lt n j ≡ true = lt-ltb n j h in rw l e
    head false e = e

pub rises_those : {A : Type 0} (p : ℕ → Bool) (k : ℕ) (all : List A) → rises (filter p (ids_from k all)) ≡ true
rises_those p k [] = refl
rises_those p k (a ∷ all) = go (p k) (rises_those p (k + 1) all) (above p k (k + 1) all (omega arith))
  where
    go : (b : Bool) → rises (filter p (ids_from (k + 1) all)) ≡ true → list_all (λ y. nat_lt k y) (filter p (ids_from (k + 1) all)) ≡ true → rises (cond b (k ∷ filter p (ids_from (k + 1) all)) (filter p (ids_from (k + 1) all))) ≡ true
    go true e f = rw f e
    go false e f = e

pub table_rises : {A : Type 0} (all : List A) (p : ℕ → ℕ → Bool) (rows : List (List ℕ)) → IsTable rows (λ id. those all (p id)) → RowsRise rows
table_rises all p rows known id = ap rises (known id) ∙ rises_those (p id) 1 all

pub feet_are : (conf : Conf) (items triggers marks met : List (List ℕ)) → IsTable items (λ item. those conf.items (foot_has_item conf item)) → IsTable triggers (foot_triggers conf) → IsTable marks (foot_marks conf)
    → IsTable met (λ item. those conf.correlations (foot_meets_mark conf item)) → told_by (record { items = items; triggers = triggers; marks = marks; met_marks = met }) ≡ feet_of conf
feet_are conf items triggers marks met a b c d =
    ap (λ (f : ℕ → List ℕ). (let v : Footing = record { items = f; triggers = row_at triggers; marks = row_at marks; met_marks = row_at met } in v)) (fun_ext a)
    ∙ ap (λ (f : ℕ → List ℕ). (let v : Footing = record { items = λ item. those conf.items (foot_has_item conf item); triggers = f; marks = row_at marks; met_marks = row_at met } in v)) (fun_ext b)
    ∙ ap (λ (f : ℕ → List ℕ). (let v : Footing = record { items = λ item. those conf.items (foot_has_item conf item); triggers = λ item. foot_triggers conf item; marks = f; met_marks = row_at met } in v)) (fun_ext c)
    ∙ ap (λ (f : ℕ → List ℕ). (let v : Footing = record { items = λ item. those conf.items (foot_has_item conf item); triggers = λ item. foot_triggers conf item; marks = λ item. foot_marks conf item; met_marks = f } in v)) (fun_ext d)
