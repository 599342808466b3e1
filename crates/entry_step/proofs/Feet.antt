-- What is in the foot of a value.
use Rattle.std.proofs.Common.{◌≡◌, ◌≤◌, ◌<◌, ◌+◌, ◌⊎◌, inl, inr, ℕ, zero, suc, ◌==◌, Bool, true, false, ◌||◌, Option, Some, None, List, [], ◌∷◌, length, filter, is_some, slice_get, get_or, refl, sym, ◌∙◌, ap, eqb-true, eq-eqb, arith}
use Rattle.std.specs.List.{list_any}
use Rattle.std.specs.Prelude.{nat_lt}
use Rattle.std.proofs.lemmas.Bool.{ltb-true}
use Rattle.std.proofs.lemmas.Option.{slice_get_within, slice_get_cases}
use Rattle.zbx_types.specs.Ids.{at_id, ids_from}
use Rattle.zbx_types.specs.Masters.{has_id, is_master}
use Rattle.zbx_types.specs.declared.conf.Conf.{Conf}
use Rattle.zbx_types.specs.declared.triggers.Trigger.{Trigger}
use Rattle.footprint.specs.Rows.{those, is_one}
use Rattle.footprint.specs.Feet.{master_by, calls_by, chain, is_under, under_of, is_of, over_of, foot_has_item, foot_triggers, foot_has_trigger, is_reached, foot_has_mark, feet_of}
use Rattle.footprint.proofs.IdLemmas.{one_is, has_those}
use Rattle.entry_step.specs.Each.{In}
use Rattle.entry_step.specs.Kept.{IsCalled}
use Rattle.entry_step.specs.Records.{is_over}
use Rattle.entry_step.proofs.Members.{or_left, or_right, and_left, and_right, and_both, any_intro, any_elim}
use Rattle.zbx_types.proofs.RowLemmas.{at_zero, at_suc}

-- the id of what is there is one of the list's
pub there : {A : Type 0} (xs : List A) (id : ℕ) (x : A) → at_id xs id ≡ Some x → is_one xs id ≡ true
there xs zero x e = let z : None ≡ Some x = sym (at_zero xs) ∙ e in cc
there xs (suc k) x e = let l = slice_get_within xs k x (sym (at_suc xs k) ∙ e) in one_is xs (suc k) (omega arith) (omega arith)

-- a test that holds of an id of a list
pub among : (q : ℕ → Bool) (xs : List ℕ) (x : ℕ) → has_id xs x ≡ true → q x ≡ true → list_any q xs ≡ true
among q xs x h e = let r = any_elim (λ y. y == x) xs h in any_intro q r.0 xs r.1 (ap q (eqb-true r.0 x r.2) ∙ e)

pub has_of : {A : Type 0} (all : List A) (p : ℕ → Bool) (x : ℕ) → is_one all x ≡ true → p x ≡ true → has_id (those all p) x ≡ true
has_of all p x o e = has_those all p x ∙ and_both (is_one all x) (p x) o e

-- an id of a list is one of its ids, and the other way round
pub one_of : {A : Type 0} (all : List A) (p : ℕ → Bool) (x : ℕ) → has_id (those all p) x ≡ true → is_one all x ≡ true
one_of all p x h = and_left (is_one all x) (p x) (sym (has_those all p x) ∙ h)

pub in_ids : {A : Type 0} (all : List A) (x : ℕ) → In x (ids_from 1 all) → is_one all x ≡ true
in_ids {A} all x i = go 1 all i (λ l u. one_is all x l u)
  where
    go : (k : ℕ) (xs : List A) → In x (ids_from k xs) → {P : Type 0} → (k ≤ x → x < k + length xs → P) → P
    go k [] j h = absurd j
    go k (y ∷ ys) (inl q) h = h (omega arith) (omega arith)
    go k (y ∷ ys) (inr j) h = go (k + 1) ys j (λ l u. h (omega arith) (omega arith))

all_kept : (xs : List ℕ) → filter (λ x. true) xs ≡ xs
all_kept [] = refl
all_kept (x ∷ xs) = ap (λ ys. x ∷ ys) (all_kept xs)

pub has_one : {A : Type 0} (all : List A) (x : ℕ) → is_one all x ≡ true → has_id (ids_from 1 all) x ≡ true
has_one all x o = ap (λ ids. has_id ids x) (sym (all_kept (ids_from 1 all))) ∙ has_of all (λ y. true) x o refl

-- where an id isn't one of a list's, nothing is there
pub gone : {A : Type 0} (xs : List A) (id : ℕ) → is_one xs id ≡ false → at_id xs id ≡ None
gone {A} xs id f = go (at_id xs id) refl
  where
    go : (o : Option A) → at_id xs id ≡ o → at_id xs id ≡ None
    go None q = q
    go (Some x) q = let t = there xs id x q in cc

pub some_at : {A : Type 0} (xs : List A) (id : ℕ) → is_one xs id ≡ true → is_some (at_id xs id) ≡ true
some_at {A} xs id o = go (at_id xs id) refl
  where
    past : (k : ℕ) → id ≡ suc k → slice_get xs k ≡ None → ⊥
    past k q e = at (slice_get_cases xs k).1
      where
        low : nat_lt id (length xs + 1) ≡ true
        low = and_right (nat_lt 0 id) (nat_lt id (length xs + 1)) o

        at : ((x : A) × (k < length xs) × (slice_get xs k ≡ Some x) × (get_or xs k x ≡ x)) ⊎ ((length xs ≤ k) × (slice_get xs k ≡ None)) → ⊥
        at (inl r) = let z : None ≡ Some r.0 = sym e ∙ r.2 in cc
        at (inr r) = let l = ltb-true id (length xs + 1) low in let m = r.0 in omega arith

    none : (k : ℕ) → id ≡ k → at_id xs k ≡ None → ⊥
    none zero q e = let z : nat_lt 0 id ≡ true = and_left (nat_lt 0 id) (nat_lt id (length xs + 1)) o in let l = ltb-true 0 id z in omega arith
    none (suc k) q e = past k q (sym (at_suc xs k) ∙ e)

    go : (x : Option A) → at_id xs id ≡ x → is_some (at_id xs id) ≡ true
    go None e = absurd (none id refl e)
    go (Some x) e = ap is_some e

-- an item that is there is under itself
pub under_itself : (conf : Conf) (item : ℕ) → is_one conf.items item ≡ true → is_under conf item item ≡ true
unfolding chain
under_itself conf item o = and_both (is_one conf.items item) (has_id (chain conf (length conf.items) item) item) o (go (length conf.items) refl)
  where
    begins : (fuel : ℕ) → has_id (chain conf (suc fuel) item) item ≡ true
    begins fuel = let s : is_some (at_id conf.items item) ≡ true = some_at conf.items item o in rw s (or_left (item == item) (has_id (chain conf fuel (master_by (at_id conf.items item))) item) (eq-eqb item item refl))

    go : (n : ℕ) → length conf.items ≡ n → has_id (chain conf n item) item ≡ true
    go zero q = let low = ltb-true item (length conf.items + 1) (and_right (nat_lt 0 item) (nat_lt item (length conf.items + 1)) o) in let high = ltb-true 0 item (and_left (nat_lt 0 item) (nat_lt item (length conf.items + 1)) o) in absurd (omega arith)
    go (suc n) q = begins n

-- a trigger that has a call over an item is there
pub over_there : (conf : Conf) (i t : ℕ) → is_over i (at_id conf.triggers t) ≡ true → is_one conf.triggers t ≡ true
over_there conf i t o = go (at_id conf.triggers t) refl o
  where
    go : (trigger : Option Trigger) → at_id conf.triggers t ≡ trigger → is_over i trigger ≡ true → is_one conf.triggers t ≡ true
    go None q e = cc
    go (Some trigger) q e = there conf.triggers t trigger q

pub over_is_of : (conf : Conf) (i t : ℕ) → is_over i (at_id conf.triggers t) ≡ true → is_of conf t i ≡ true
over_is_of conf i t o = go (at_id conf.triggers t) o
  where
    go : (trigger : Option Trigger) → is_over i trigger ≡ true → has_id (calls_by trigger) i ≡ true
    go None e = cc
    go (Some trigger) e = and_right trigger.enabled (list_any (λ x. x == i) trigger.call_items) e

pub called_is_of : (conf : Conf) (t i : ℕ) → IsCalled conf t i → is_of conf t i ≡ true
called_is_of conf t i c = ap (λ o. has_id (calls_by o) i) c.1 ∙ any_intro (λ x. x == i) i (c.0).call_items c.2 (eq-eqb i i refl)

-- a trigger over an item that is under another one is over that one
pub has_over : (conf : Conf) (item i t : ℕ) → is_one conf.items i ≡ true → is_under conf item i ≡ true → is_over i (at_id conf.triggers t) ≡ true → has_id (over_of conf item) t ≡ true
has_over conf item i t one under o =
    has_of conf.triggers (λ u. list_any (λ j. is_of conf u j) (under_of conf item)) t (over_there conf i t o)
    (among (λ j. is_of conf t j) (under_of conf item) i (has_of conf.items (is_under conf item) i one under) (over_is_of conf i t o))

-- the items of the triggers over an item are in its foot, as are these triggers and their masters
pub calls_in_foot : (conf : Conf) (item t i : ℕ) → has_id (over_of conf item) t ≡ true → IsCalled conf t i → is_one conf.items i ≡ true → has_id ((feet_of conf).items item) i ≡ true
calls_in_foot conf item t i o c one =
    has_of conf.items (foot_has_item conf item) i one
    (or_right (is_under conf item i) (list_any (λ u. is_of conf u i) (over_of conf item)) (among (λ u. is_of conf u i) (over_of conf item) t o (called_is_of conf t i c)))

pub over_in_foot : (conf : Conf) (item t : ℕ) → has_id (over_of conf item) t ≡ true → is_one conf.triggers t ≡ true → has_id ((feet_of conf).triggers item) t ≡ true
over_in_foot conf item t o one = has_of conf.triggers (foot_has_trigger conf item) t one (among (λ u. (u == t) || is_master conf u t) (over_of conf item) t o (or_left (t == t) (is_master conf t t) (eq-eqb t t refl)))

pub master_in_foot : (conf : Conf) (item t m : ℕ) → has_id (over_of conf item) t ≡ true → is_one conf.triggers m ≡ true → is_master conf t m ≡ true → has_id ((feet_of conf).triggers item) m ≡ true
master_in_foot conf item t m o one e = has_of conf.triggers (foot_has_trigger conf item) m one (among (λ u. (u == m) || is_master conf u m) (over_of conf item) t o (or_right (t == m) (is_master conf t m) e))

-- so is what a rule reaches that reaches one of the foot's triggers
pub reach_in_foot : (conf : Conf) (item rule t u : ℕ) → is_one conf.correlations rule ≡ true → has_id ((feet_of conf).triggers item) t ≡ true → is_reached conf rule t ≡ true → is_reached conf rule u ≡ true → list_any (λ r. is_reached conf r u) ((feet_of conf).marks item) ≡ true
reach_in_foot conf item rule t u one f reached other =
    among (λ r. is_reached conf r u) ((feet_of conf).marks item) rule
    (has_of conf.correlations (foot_has_mark conf item) rule one (among (λ v. is_reached conf rule v) (foot_triggers conf item) t f reached)) other
