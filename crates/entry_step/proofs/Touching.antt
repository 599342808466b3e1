-- Ids that are found in feet.
use Rattle.std.proofs.Common.{◌≡◌, ℕ, ◌+◌, ◌<◌, ◌≤◌, ◌==◌, Bool, true, false, ◌||◌, List, [], ◌∷◌, ◌++◌, length, drop, get_or, refl, sym, ◌∙◌, ap, eqb-true, eq-eqb}
use Rattle.std.specs.List.{list_any}
use Rattle.std.proofs.lemmas.List.{drop_more, drop_all}
use Rattle.std.proofs.lemmas.List.Folds.{list_any-append}
use Rattle.std.proofs.Math.Bool.{or_assoc}
use Rattle.zbx_types.specs.Ids.{ids_from}
use Rattle.zbx_types.specs.Masters.{has_id}
use Rattle.zbx_types.specs.declared.conf.Conf.{Conf}
use Rattle.zbx_types.specs.declared.entries.Entry.{Entry}
use Rattle.zbx_types.specs.declared.entries.Entry.TheVariants.{Config, Value, Tick}
use Rattle.zbx_types.specs.declared.entries.Numbered.{Numbered}
use Rattle.footprint.specs.Rows.{those, is_one}
use Rattle.footprint.specs.Feet.{feet_of, is_reached}
use Rattle.footprint.proofs.IdLemmas.{those_same}
use Rattle.entry_step.specs.Cells.{Key, ItemKey, TriggerKey, touches}
use Rattle.entry_step.specs.Laws.{any_touches}
use Rattle.entry_step.specs.Touched.{IsFound}
use Rattle.preprocess.proofs.Rows.{there}
use Rattle.entry_step.proofs.Feet.{has_one}

or_true : (b : Bool) → (b || true) ≡ true
or_true true = refl
or_true false = refl

or_nil : (b : Bool) → (b || false) ≡ b
or_nil true = refl
or_nil false = refl

turned : (a b : ℕ) → (a == b) ≡ (b == a)
turned a b = go (a == b) refl (b == a) refl
  where
    go : (x : Bool) → (a == b) ≡ x → (y : Bool) → (b == a) ≡ y → x ≡ y
    go true e true f = refl
    go true e false f = let t : (b == a) ≡ true = eq-eqb b a (sym (eqb-true a b e)) in cc
    go false e true f = let t : (a == b) ≡ true = eq-eqb a b (sym (eqb-true b a f)) in cc
    go false e false f = refl

has_append : (xs ys : List ℕ) (id : ℕ) → has_id (xs ++ ys) id ≡ (has_id xs id || has_id ys id)
has_append xs ys id = list_any-append (λ x. x == id) xs ys

append_one : {A : Type 0} (xs : List A) (x : A) (ys : List A) → (xs ++ x ∷ []) ++ ys ≡ xs ++ x ∷ ys
append_one [] x ys = refl
append_one (z ∷ xs) x ys = ap (λ zs. z ∷ zs) (append_one xs x ys)

ids_step : {A : Type 0} (xs : List A) (k n : ℕ) → k < length xs → ids_from n (drop k xs) ≡ n ∷ ids_from (n + 1) (drop (k + 1) xs)
ids_step xs k n l = let t = there xs k l in ap (ids_from n) (drop_more xs k t.0 l)

-- one id more
pub ids_more : {A : Type 0} (all : List A) (k id : ℕ) (now next whole : List ℕ) → k < length all → id ≡ k + 1 → next ≡ now ++ id ∷ [] → now ++ ids_from (k + 1) (drop k all) ≡ whole → next ++ ids_from (k + 1 + 1) (drop (k + 1) all) ≡ whole
ids_more all k id now next whole l i e so_far =
    ap (λ xs. xs ++ ids_from (k + 1 + 1) (drop (k + 1) all)) e ∙ append_one now id (ids_from (k + 1 + 1) (drop (k + 1) all)) ∙ ap (λ x. now ++ x ∷ ids_from (k + 1 + 1) (drop (k + 1) all)) i
    ∙ ap (λ ys. now ++ ys) (sym (ids_step all k (k + 1) l)) ∙ so_far

-- an entry that touches everything
pub all_found : {A : Type 0} (all : List A) (before found : List ℕ) (test : ℕ → Bool) → ((id : ℕ) → test id ≡ true) → found ≡ before ++ ids_from 1 all → IsFound all before test found
all_found all before found test every e id one =
    ap (λ ids. has_id ids id) e ∙ has_append before (ids_from 1 all) id ∙ ap (λ b. has_id before id || b) (has_one all id one ∙ sym (every id))

pub every_config : (conf : Conf) (entry : Entry) (now : ℕ) (text : List ℕ) (k : Key) → entry ≡ Config now text → touches conf entry k ≡ true
unfolding touches
every_config conf entry now text k e = ap (λ x. touches conf x k) e

pub every_tick : (conf : Conf) (entry : Entry) (now : ℕ) (k : Key) → entry ≡ Tick now → touches conf entry k ≡ true
unfolding touches
every_tick conf entry now k e = ap (λ x. touches conf x k) e

-- a value
pub value_items : {A : Type 0} (conf : Conf) (all : List A) (entry : Entry) (now item time : ℕ) (value : List ℕ) (before middle row found : List ℕ) → entry ≡ Value now item time value → middle ≡ before ++ item ∷ [] → row ≡ (feet_of conf).items item → found ≡ middle ++ row
    → IsFound all before (λ id. touches conf entry (ItemKey id)) found
unfolding touches
value_items conf all entry now item time value before middle row found is m r f id one =
    ap (λ ids. has_id ids id) f ∙ has_append middle row id ∙ ap (λ b. b || has_id row id) (ap (λ ids. has_id ids id) m ∙ has_append before (item ∷ []) id)
    ∙ or_assoc (has_id before id) ((item == id) || false) (has_id row id)
    ∙ ap (λ b. has_id before id || (b || has_id row id)) (or_nil (item == id) ∙ turned item id)
    ∙ ap (λ ids. has_id before id || ((id == item) || has_id ids id)) r
    ∙ ap (λ x. has_id before id || touches conf x (ItemKey id)) (sym is)

pub value_triggers : {A : Type 0} (conf : Conf) (all : List A) (entry : Entry) (now item time : ℕ) (value : List ℕ) (before middle row marks found : List ℕ) → entry ≡ Value now item time value → row ≡ (feet_of conf).triggers item → middle ≡ before ++ row
    → marks ≡ (feet_of conf).marks item → ((id : ℕ) → has_id found id ≡ (has_id middle id || list_any (λ rule. is_reached conf rule id) marks)) → IsFound all before (λ id. touches conf entry (TriggerKey id)) found
unfolding touches
value_triggers conf all entry now item time value before middle row marks found is r m k f id one =
    f id ∙ ap (λ b. b || list_any (λ rule. is_reached conf rule id) marks) (ap (λ ids. has_id ids id) m ∙ has_append before row id)
    ∙ or_assoc (has_id before id) (has_id row id) (list_any (λ rule. is_reached conf rule id) marks)
    ∙ ap (λ ids. has_id before id || (has_id ids id || list_any (λ rule. is_reached conf rule id) marks)) r
    ∙ ap (λ rules. has_id before id || (has_id ((feet_of conf).triggers item) id || list_any (λ rule. is_reached conf rule id) rules)) k
    ∙ ap (λ x. has_id before id || touches conf x (TriggerKey id)) (sym is)

-- one rule more
pub reached_more : (conf : Conf) (rules : List ℕ) (k rule : ℕ) (now row next : List ℕ) (id : ℕ) (whole : Bool) → k < length rules → rule ≡ get_or rules k 0 → ((id : ℕ) → has_id row id ≡ is_reached conf rule id) → next ≡ now ++ row
    → (has_id now id || list_any (λ rule. is_reached conf rule id) (drop k rules)) ≡ whole → (has_id next id || list_any (λ rule. is_reached conf rule id) (drop (k + 1) rules)) ≡ whole
reached_more conf rules k rule now row next id whole l at has e so_far =
    ap (λ ids. has_id ids id || list_any (λ rule. is_reached conf rule id) (drop (k + 1) rules)) e
    ∙ ap (λ b. b || list_any (λ rule. is_reached conf rule id) (drop (k + 1) rules)) (has_append now row id)
    ∙ or_assoc (has_id now id) (has_id row id) (list_any (λ rule. is_reached conf rule id) (drop (k + 1) rules))
    ∙ ap (λ b. has_id now id || (b || list_any (λ rule. is_reached conf rule id) (drop (k + 1) rules))) (has id)
    ∙ ap (λ r. has_id now id || (is_reached conf r id || list_any (λ rule. is_reached conf rule id) (drop (k + 1) rules))) at
    ∙ ap (λ rs. has_id now id || list_any (λ rule. is_reached conf rule id) rs) (sym (drop_more rules k 0 l)) ∙ so_far

pub reached_all : (conf : Conf) (rules : List ℕ) (k : ℕ) (now : List ℕ) (id : ℕ) (whole : Bool) → length rules ≤ k → (has_id now id || list_any (λ rule. is_reached conf rule id) (drop k rules)) ≡ whole → has_id now id ≡ whole
reached_all conf rules k now id whole past so_far =
    sym (or_nil (has_id now id)) ∙ ap (λ rs. has_id now id || list_any (λ rule. is_reached conf rule id) rs) (sym (drop_all k rules past)) ∙ so_far

-- one entry more; a key goes by an id, that of an item or that of a trigger
pub found_more : {A : Type 0} (conf : Conf) (all : List A) (es : List Numbered) (k : ℕ) (e : Numbered) (key : ℕ → Key) (now next : List ℕ) → k < length es → e ≡ get_or es k e → IsFound all now (λ id. touches conf e.entry (key id)) next
    → ((id : ℕ) → is_one all id ≡ true → (has_id now id || any_touches conf (drop k es) (key id)) ≡ any_touches conf es (key id))
    → (id : ℕ) → is_one all id ≡ true → (has_id next id || any_touches conf (drop (k + 1) es) (key id)) ≡ any_touches conf es (key id)
found_more conf all es k e key now next l at found so_far id one =
    ap (λ b. b || any_touches conf (drop (k + 1) es) (key id)) (found id one)
    ∙ or_assoc (has_id now id) (touches conf e.entry (key id)) (any_touches conf (drop (k + 1) es) (key id))
    ∙ ap (λ (x : Numbered). has_id now id || (touches conf x.entry (key id) || any_touches conf (drop (k + 1) es) (key id))) at
    ∙ ap (λ xs. has_id now id || any_touches conf xs (key id)) (sym (drop_more es k e l)) ∙ so_far id one

pub found_all : {A : Type 0} (conf : Conf) (all : List A) (es : List Numbered) (k : ℕ) (key : ℕ → Key) (now : List ℕ) → length es ≤ k
    → ((id : ℕ) → is_one all id ≡ true → (has_id now id || any_touches conf (drop k es) (key id)) ≡ any_touches conf es (key id)) → those all (has_id now) ≡ those all (λ id. any_touches conf es (key id))
found_all conf all es k key now past so_far =
    those_same all (has_id now) (λ id. any_touches conf es (key id)) (λ id one. sym (or_nil (has_id now id)) ∙ ap (λ xs. has_id now id || any_touches conf xs (key id)) (sym (drop_all k es past)) ∙ so_far id one)
