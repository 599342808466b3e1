-- The steps of an event and an action among records, and what actions add.
use Rattle.std.proofs.Common.{◌≡◌, ◌≢◌, ℕ, zero, suc, ◌+◌, ◌<◌, ◌==◌, Bool, true, false, cond, not, ◌&&◌, ◌⊎◌, inl, inr, Option, Some, None, List, [], ◌∷◌, ◌++◌, map, refl, sym, ◌∙◌, ap, subst, append_assoc, append-nil, eqb-true, eq-eqb, add-one, arith, Ordering, Less, Equal, Greater}
use Rattle.std.specs.Prelude.{filter, fold, filter_map, flat_map, option_map, option_to_list, is_some, nat_le}
use Rattle.std.specs.List.{list_any, reduce, last_or, slice_index, cons_option}
use Rattle.std.specs.List.Sorted.{IsStrictlyIncreasing}
use Rattle.std.specs.Str.{bytes_eq}
use Rattle.std.specs.Ordering.{is_lt, is_eq, nat_cmp, ordering_reverse}
use Rattle.std.specs.Cmp.Lexicographic.{slice_cmp, bytes_decides, nat_list_cmp_total}
use Rattle.std.proofs.lemmas.Map.Text.{is_eq-slice_cmp}
use Rattle.std.proofs.lemmas.Bool.{lt-leb}
use Rattle.zbx_types.specs.Ids.{at_id}
use Rattle.zbx_types.specs.Records.{same_event, event_of, tags_of}
use Rattle.zbx_types.specs.declared.actions.Action.{Action}
use Rattle.zbx_types.specs.declared.conf.Conf.{Conf}
use Rattle.zbx_types.specs.declared.items.Item.{Item}
use Rattle.zbx_types.specs.declared.entries.Entry.{Entry}
use Rattle.zbx_types.specs.declared.entries.Cause2.{Cause2}
use Rattle.zbx_types.specs.declared.entries.EventId.{EventId}
use Rattle.zbx_types.specs.declared.entries.Rec.{Rec}
use Rattle.zbx_types.specs.declared.entries.Rec.TheVariants.{Failure, Problem, Recovery, Step, Message}
use Rattle.maintenance.specs.Suppression.{is_suppressed}
use Rattle.escalations.specs.Conditions.{is_matched}
use Rattle.escalations.specs.Escalations.{next_step, records_at, next_records, due_records_of, recovery_records, recovered_records}
use Rattle.escalations.specs.Messages.{message_to, operation_records, step_records, sending_records}
use Rattle.escalations.specs.Steps.{operations_of, ran_of, later, last_step, number_behind, step_exists, is_due, step_due}
use Rattle.preprocess.specs.Draft.{failure_by, failure_of, failures_of}
use Rattle.preprocess.specs.declared.visit.Visit.{Visit}
use Rattle.preprocess.specs.declared.visit.ItemOutcome.{ItemOutcome}
use Rattle.preprocess.specs.declared.visit.ItemOutcome.TheVariants as outcome
use Rattle.trigger_state.specs.Stages.{Stage, home, rank_of}
use Rattle.trigger_state.specs.Problems.{event_in, opens, recovers, opened, open_of, action_of, same_action, is_before, with_step, steps_from, steps_of}
use Rattle.trigger_state.specs.declared.problems.Open.{Open}
use Rattle.entry_step.specs.Due.{by_making}
use Rattle.entry_step.specs.Each.{Each, In, EachPair}
use Rattle.entry_step.specs.History.{visits_at}
use Rattle.entry_step.specs.Order.{put_by, sorted_by}
use Rattle.conf_index.specs.Order.{order}
use Rattle.entry_step.specs.Records.{closed_records, failures_at}
use Rattle.entry_laws.specs.Rising.{step_of, steps_run, Count, RiseByOne, IsNext, AreNext, is_of, StandsBehind, HaveOwnNames}
use Rattle.entry_step.proofs.Making.{Once, OfProblem}
use Rattle.entry_step.proofs.Members.{each_append, each_at, each_from, each_sub, each_cond, and_both}
use Rattle.entry_step.proofs.Replays.{once_order}
use Rattle.entry_step.proofs.Said.{each_flat_map}
use Rattle.entry_step.proofs.Sorting.{each_sorted, by_event_each}
use Rattle.entry_step.proofs.Visited.{Memory}

-- Events and names
pub same_is : (a b : EventId) → same_event a b ≡ true → a ≡ b
same_is a b h = go (a.number == b.number) (a.trigger == b.trigger) refl refl h
  where
    both : a.number ≡ b.number → a.trigger ≡ b.trigger → a ≡ b
    both n t = ap (λ (x : ℕ). (let e : EventId = record { number = x; trigger = a.trigger } in e)) n ∙ ap (λ (x : ℕ). (let e : EventId = record { number = b.number; trigger = x } in e)) t

    go : (x y : Bool) → (a.number == b.number) ≡ x → (a.trigger == b.trigger) ≡ y → (x && y) ≡ true → a ≡ b
    go true true n t h = both (eqb-true a.number b.number n) (eqb-true a.trigger b.trigger t)
    go true false n t h = cc
    go false y n t h = cc

pub same_self : (a : EventId) → same_event a a ≡ true
same_self a = and_both (a.number == a.number) (a.trigger == a.trigger) (eq-eqb a.number a.number refl) (eq-eqb a.trigger a.trigger refl)

pub other_flip : (a b : EventId) → same_event a b ≡ false → same_event b a ≡ false
other_flip a b h = go (same_event b a) refl
  where
    go : (x : Bool) → same_event b a ≡ x → same_event b a ≡ false
    go true e = let q : same_event a b ≡ true = subst (λ c. same_event c b ≡ true) (same_is b a e) (same_self b) in cc
    go false e = e

same_sym : (a b : EventId) → same_event a b ≡ same_event b a
same_sym a b = go (same_event a b) refl
  where
    go : (x : Bool) → same_event a b ≡ x → same_event a b ≡ same_event b a
    go true q = q ∙ sym (subst (λ c. same_event c a ≡ true) (same_is a b q) (same_self a))
    go false q = q ∙ sym (other_flip a b q)

name_is : (a b : List ℕ) → bytes_eq a b ≡ true → a ≡ b
name_is a b e = (bytes_decides a b).0 e

name_self : (a : List ℕ) → bytes_eq a a ≡ true
name_self a = (bytes_decides a a).1 refl

-- Numbers that rise by one
-- the number behind the last one
abbrev pub next_from : ℕ → List ℕ → ℕ
next_from next [] = next
next_from next (n ∷ ns) = next_from (n + 1) ns

count_more : (next : ℕ) (xs : List ℕ) (n : ℕ) → Count next xs → n ≡ next_from next xs → Count next (xs ++ n ∷ [])
count_more next [] n f e = (e, tt)
count_more next (x ∷ xs) n f e = (f.0, count_more (x + 1) xs n f.1 e)

rise_more : (xs : List ℕ) (n : ℕ) → RiseByOne xs → n ≡ next_from 1 xs → RiseByOne (xs ++ n ∷ [])
rise_more [] n r e = tt
rise_more (x ∷ xs) n r e = count_more (x + 1) xs n r e

next_more : (next : ℕ) (xs : List ℕ) (n : ℕ) → next_from next (xs ++ n ∷ []) ≡ n + 1
next_more next [] n = refl
next_more next (x ∷ xs) n = next_more (x + 1) xs n

increasing_from : (x : ℕ) (xs : List ℕ) → Count (x + 1) xs → IsStrictlyIncreasing (x ∷ xs)
increasing_from x [] f = λ k l. absurd (omega arith)
increasing_from x (y ∷ ys) f = at (increasing_from y ys f.1)
  where
    at : IsStrictlyIncreasing (y ∷ ys) → IsStrictlyIncreasing (x ∷ y ∷ ys)
    at ih zero l = let e : y ≡ x + 1 = f.0 in let m : x < y = omega (arith, e) in m
    at ih (suc k) l =
        let h : slice_index (y ∷ ys) k < slice_index (y ∷ ys) (k + 1) = ih k (omega arith) in
        let g : slice_index (y ∷ ys) k < slice_index (y ∷ ys) (suc k) = rw add-one at h in
        rw add-one g

pub increasing : (xs : List ℕ) → RiseByOne xs → IsStrictlyIncreasing xs
increasing [] r = λ k l. absurd (omega arith)
increasing (x ∷ xs) r = increasing_from x xs r

-- the greatest is the last one
module _ {A : Type 0} (later : A → A → A) (step : A → ℕ) (hop : (x y : A) → step y ≡ step x + 1 → later x y ≡ y) where
  greatest_of : (x : A) (xs : List A) → Count (step x + 1) (map step xs) → Some (fold later x xs) ≡ last_or (Some x) xs
  greatest_of x [] f = refl
  greatest_of x (y ∷ ys) f = let newer : later x y ≡ y = hop x y f.0 in rw newer (greatest_of y ys f.1)

  greatest_is_last : (xs : List A) → RiseByOne (map step xs) → reduce later xs ≡ last_or None xs
  greatest_is_last [] r = refl
  greatest_is_last (x ∷ xs) r = greatest_of x xs r

  pub greatest_of_one : (o : Option A) → reduce later (option_to_list o) ≡ o
  greatest_of_one None = refl
  greatest_of_one (Some x) = refl

module _ {A : Type 0} (behind : Option A → ℕ) (step : A → ℕ) (some : (x : A) → behind (Some x) ≡ step x + 1) where
  behind_last : (next : ℕ) (o : Option A) → behind o ≡ next → (xs : List A) → behind (last_or o xs) ≡ next_from next (map step xs)
  behind_last next o e [] = e
  behind_last next o e (x ∷ xs) = behind_last (step x + 1) (Some x) (some x) xs

-- What is found in lists
fm_append : {A B : Type 0} (f : A → Option B) (xs ys : List A) → filter_map f (xs ++ ys) ≡ filter_map f xs ++ filter_map f ys
fm_append f [] ys = refl
fm_append {A} {B} f (x ∷ xs) ys = go (f x) (fm_append f xs ys)
  where
    go : (o : Option B) → filter_map f (xs ++ ys) ≡ filter_map f xs ++ filter_map f ys → cons_option o (filter_map f (xs ++ ys)) ≡ cons_option o (filter_map f xs) ++ filter_map f ys
    go None h = h
    go (Some r) h = ap (λ zs. r ∷ zs) h

fm_none : {A B : Type 0} (f : A → Option B) (xs : List A) → Each (λ x. f x ≡ None) xs → filter_map f xs ≡ []
fm_none f [] h = refl
fm_none f (x ∷ xs) h = ap (λ o. cons_option o (filter_map f xs)) h.0 ∙ fm_none f xs h.1

map_fm : {A B C : Type 0} (g : B → C) (f : A → Option B) (h : A → Option C) → ((x : A) → option_map g (f x) ≡ h x) → (xs : List A) → map g (filter_map f xs) ≡ filter_map h xs
map_fm g f h same [] = refl
map_fm {A} {B} {C} g f h same (x ∷ xs) = go (f x) (map_fm g f h same xs) ∙ ap (λ o. cons_option o (filter_map h xs)) (same x)
  where
    go : (o : Option B) → map g (filter_map f xs) ≡ filter_map h xs → map g (cons_option o (filter_map f xs)) ≡ cons_option (option_map g o) (filter_map h xs)
    go None e = e
    go (Some y) e = ap (λ ys. g y ∷ ys) e

last_more : {A : Type 0} (o : Option A) (xs : List A) (x : A) → last_or o (xs ++ x ∷ []) ≡ Some x
last_more o [] x = refl
last_more o (y ∷ ys) x = last_more (Some y) ys x

-- The steps of an event and action among records
pub runs_append : (e : EventId) (a : List ℕ) (xs ys : List Rec) → steps_run e a (xs ++ ys) ≡ steps_run e a xs ++ steps_run e a ys
runs_append e a xs ys = fm_append (step_of e a) xs ys

pub runs_none : (e : EventId) (a : List ℕ) (rs : List Rec) → Each (λ r. step_of e a r ≡ None) rs → steps_run e a rs ≡ []
runs_none e a rs h = fm_none (step_of e a) rs h

both_off : (b c : Bool) → c ≡ false → (b && c) ≡ false
both_off true c h = h
both_off false c h = refl

abbrev typed : {A B : Type 0} → (Option A → B) → A → A
typed f x = x

-- a step of another event or action, and one of these
ran_off : (e : EventId) (a : List ℕ) (event : EventId) (action : List ℕ) (step now : ℕ) → (same_event e event && bytes_eq action a) ≡ false → ran_of e a (Step event action step now) ≡ None
ran_off e a event action step now q =
    ap (λ b. cond b (Some (typed number_behind (record { step = step; moment = now }))) None) (ap (λ x. x && bytes_eq action a) (same_sym event e) ∙ q)

ran_on : (e : EventId) (a : List ℕ) (event : EventId) (action : List ℕ) (step now : ℕ) → (same_event e event && bytes_eq action a) ≡ true → is_some (ran_of e a (Step event action step now)) ≡ true
ran_on e a event action step now q =
    ap (λ b. is_some (cond b (Some (typed number_behind (record { step = step; moment = now }))) None)) (ap (λ x. x && bytes_eq action a) (same_sym event e) ∙ q)

number_is : (e : EventId) (a : List ℕ) (r : Rec) → option_map (λ ran. ran.step) (ran_of e a r) ≡ step_of e a r
number_is e a (Step event action step now) = go (same_event event e && bytes_eq action a) (same_event e event && bytes_eq action a) (ap (λ x. x && bytes_eq action a) (same_sym event e))
  where
    go : (b c : Bool) → b ≡ c → option_map (λ ran. ran.step) (cond b (Some (typed number_behind (record { step = step; moment = now }))) None) ≡ cond c (Some step) None
    go true true r = refl
    go false false r = refl
    go true false r = cc
    go false true r = cc
number_is e a (Failure number host key why) = refl
number_is e a (Problem event now severity suppressed host trigger name tags) = refl
number_is e a (Recovery event by now cause) = refl
number_is e a (Message event action step recipient subject body) = refl

-- their numbers
pub numbers_are : (e : EventId) (a : List ℕ) (rs : List Rec) → map (λ ran. ran.step) (filter_map (ran_of e a) rs) ≡ steps_run e a rs
numbers_are e a rs = map_fm (λ ran. ran.step) (ran_of e a) (step_of e a) (number_is e a) rs

abbrev pub Rise : List Rec → Type 0
Rise rs = (e : EventId) (a : List ℕ) → RiseByOne (steps_run e a rs)

abbrev pub GoOn : List Rec → List Rec → Type 0
GoOn rs new = (e : EventId) (a : List ℕ) → Count (next_from 1 (steps_run e a rs)) (steps_run e a new)

-- the number behind the last of all steps of an event and action
pub last_number_is : (e : EventId) (a : List ℕ) (rs : List Rec) → number_behind (last_or None (filter_map (ran_of e a) rs)) ≡ next_from 1 (steps_run e a rs)
last_number_is e a rs = behind_last number_behind (λ ran. ran.step) (λ ran. refl) 1 None refl (filter_map (ran_of e a) rs) ∙ ap (next_from 1) (numbers_are e a rs)

-- which is the greatest one
pub greatest_is : (e : EventId) (a : List ℕ) (rs : List Rec) → Rise rs → number_behind (last_step rs e a) ≡ next_from 1 (steps_run e a rs)
greatest_is e a rs rise =
    ap number_behind
    (greatest_is_last later (λ ran. ran.step) (λ x y q. (let no : nat_le y.step x.step ≡ false = lt-leb y.step x.step (omega (arith, q)) in rw no refl)) (filter_map (ran_of e a) rs) (subst RiseByOne (sym (numbers_are e a rs)) (rise e a)))
    ∙ last_number_is e a rs

-- steps that go on behind others are each the next one
pub next_all : (rs new : List Rec) → Rise rs → GoOn rs new → AreNext rs new × Rise (rs ++ new)
next_all rs [] rise on = (tt, λ e a. subst (λ xs. RiseByOne (steps_run e a xs)) (sym (append-nil rs)) (rise e a))
next_all rs (r ∷ new) rise on =
    let rest = next_all (rs ++ r ∷ []) new (λ e a. (one e a (step_of e a r) refl (on e a)).0) (λ e a. (one e a (step_of e a r) refl (on e a)).1) in
    ((next r on, rest.0), λ e a. subst (λ xs. RiseByOne (steps_run e a xs)) (append_assoc rs (r ∷ []) new) (rest.1 e a))
  where
    one : (e : EventId) (a : List ℕ) (o : Option ℕ) → step_of e a r ≡ o → Count (next_from 1 (steps_run e a rs)) (cons_option (step_of e a r) (steps_run e a new))
        → RiseByOne (steps_run e a (rs ++ r ∷ [])) × Count (next_from 1 (steps_run e a (rs ++ r ∷ []))) (steps_run e a new)
    one e a None q f =
        let same : steps_run e a (rs ++ r ∷ []) ≡ steps_run e a rs = runs_append e a rs (r ∷ []) ∙ ap (λ o. steps_run e a rs ++ cons_option o []) q ∙ append-nil (steps_run e a rs) in (
          subst RiseByOne (sym same) (rise e a),
          subst (λ xs. Count (next_from 1 xs) (steps_run e a new)) (sym same) (subst (λ o. Count (next_from 1 (steps_run e a rs)) (cons_option o (steps_run e a new))) q f),
        )
    one e a (Some n) q f =
        let more : steps_run e a (rs ++ r ∷ []) ≡ steps_run e a rs ++ n ∷ [] = runs_append e a rs (r ∷ []) ∙ ap (λ o. steps_run e a rs ++ cons_option o []) q in
        let g : Count (next_from 1 (steps_run e a rs)) (n ∷ steps_run e a new) = subst (λ o. Count (next_from 1 (steps_run e a rs)) (cons_option o (steps_run e a new))) q f in (
          subst RiseByOne (sym more) (rise_more (steps_run e a rs) n (rise e a) g.0),
          subst (λ k. Count k (steps_run e a new)) (sym (ap (next_from 1) more ∙ next_more 1 (steps_run e a rs) n)) g.1,
        )

    next : (x : Rec) → GoOn rs (x ∷ new) → IsNext rs x
    next (Step event action step now) h =
        let own : step_of event action (Step event action step now) ≡ Some step = ap (λ b. cond b (Some step) None) (and_both (same_event event event) (bytes_eq action action) (same_self event) (name_self action)) in
        let f : Count (next_from 1 (steps_run event action rs)) (step ∷ steps_run event action new) = subst (λ o. Count (next_from 1 (steps_run event action rs)) (cons_option o (steps_run event action new))) own (h event action) in
        f.0 ∙ sym (greatest_is event action rs rise)
    next (Failure number host key why) h = tt
    next (Problem event now severity suppressed host trigger name tags) h = tt
    next (Recovery event by now cause) h = tt
    next (Message event action step recipient subject body) h = tt

pub next_append : (before xs ys : List Rec) → AreNext before xs → AreNext (before ++ xs) ys → AreNext before (xs ++ ys)
next_append before [] ys a b = subst (λ rs. AreNext rs ys) (append-nil before) b
next_append before (x ∷ xs) ys a b = (a.0, next_append (before ++ x ∷ []) xs ys a.1 (subst (λ rs. AreNext rs ys) (sym (append_assoc before (x ∷ []) xs)) b))

-- The last step of each action, in the order of the actions' names
less_is : (r : Ordering) → is_lt r ≡ true → r ≡ Less
less_is Less e = refl
less_is Equal e = absurd (cc)
less_is Greater e = absurd (cc)

before_other : (x s : Rec) → is_before x s ≡ true → bytes_eq (action_of x) (action_of s) ≡ false
before_other x s e = sym (is_eq-slice_cmp (action_of x) (action_of s)) ∙ ap is_eq (less_is (slice_cmp nat_cmp (action_of x) (action_of s)) e)

before_trans : (x y z : Rec) → is_before x y ≡ true → is_before y z ≡ true → is_before x z ≡ true
before_trans x y z e f =
    ap is_lt (nat_list_cmp_total.trans (action_of x) (action_of y) (action_of z) (less_is (slice_cmp nat_cmp (action_of x) (action_of y)) e) (less_is (slice_cmp nat_cmp (action_of y) (action_of z)) f))

before_turned : (x s : Rec) → is_before x s ≡ false → same_action x s ≡ false → is_before s x ≡ true
before_turned x s e f = go (slice_cmp nat_cmp (action_of x) (action_of s)) refl
  where
    go : (r : Ordering) → slice_cmp nat_cmp (action_of x) (action_of s) ≡ r → is_before s x ≡ true
    go Less q = let t : is_before x s ≡ true = ap is_lt q in cc
    go Equal q = let t : same_action x s ≡ true = sym (is_eq-slice_cmp (action_of x) (action_of s)) ∙ ap is_eq q in cc
    go Greater q = ap is_lt (nat_list_cmp_total.antisymm (action_of s) (action_of x) ∙ ap ordering_reverse q)

other_none : (e : EventId) (a : List ℕ) (x : Rec) → bytes_eq (action_of x) a ≡ false → ran_of e a x ≡ None
other_none e a (Step event action step now) h = ran_off e a event action step now (both_off (same_event e event) (bytes_eq action a) h)
other_none e a (Failure number host key why) h = refl
other_none e a (Problem event now severity suppressed host trigger name tags) h = refl
other_none e a (Recovery event by now cause) h = refl
other_none e a (Message event action step recipient subject body) h = refl

abbrev Ordered : List Rec → Type 0
Ordered steps = EachPair (λ x y. is_before x y ≡ true) steps

with_each : (P : Rec → Type 0) (steps : List Rec) (s : Rec) → Each P steps → P s → Each P (with_step steps s)
with_each P [] s e p = (p, tt)
with_each P (x ∷ xs) s e p = go (is_before x s) (same_action x s) (with_each P xs s e.1 p)
  where
    go : (b c : Bool) → Each P (with_step xs s) → Each P (cond b (x ∷ with_step xs s) (cond c (s ∷ xs) (s ∷ x ∷ xs)))
    go true c ih = (e.0, ih)
    go false true ih = (p, e.1)
    go false false ih = (p, e)

with_ordered : (steps : List Rec) (s : Rec) → Ordered steps → Ordered (with_step steps s)
with_ordered [] s o = (tt, tt)
with_ordered (x ∷ xs) s o = go (is_before x s) (same_action x s) refl refl (with_ordered xs s o.1)
  where
    go : (b c : Bool) → is_before x s ≡ b → same_action x s ≡ c → Ordered (with_step xs s) → Ordered (cond b (x ∷ with_step xs s) (cond c (s ∷ xs) (s ∷ x ∷ xs)))
    go true c q r ih = (with_each (λ y. is_before x y ≡ true) xs s o.0 q, ih)
    go false true q r ih = (
      each_sub (λ y. is_before x y ≡ true) (λ y. is_before s y ≡ true) xs
          (λ y h. subst (λ n. is_lt (slice_cmp nat_cmp n (action_of y)) ≡ true) (name_is (action_of x) (action_of s) r) h) o.0,
      o.1,
    )
    go false false q r ih =
        let turned : is_before s x ≡ true = before_turned x s q r in
        ((turned, each_sub (λ y. is_before x y ≡ true) (λ y. is_before s y ≡ true) xs (λ y h. before_trans s x y turned h) o.0), o)

-- one more step of an action is its only one, and leaves those of others
with_own : (e : EventId) (steps : List Rec) (s : Rec) → Ordered steps → filter_map (ran_of e (action_of s)) (with_step steps s) ≡ filter_map (ran_of e (action_of s)) (s ∷ [])
with_own e [] s o = refl
with_own e (x ∷ xs) s o = go (is_before x s) (same_action x s) refl refl (with_own e xs s o.1)
  where
    flip : (y : Rec) → bytes_eq (action_of s) (action_of y) ≡ false → bytes_eq (action_of y) (action_of s) ≡ false
    flip y f = at (bytes_eq (action_of y) (action_of s)) refl
      where
        at : (b : Bool) → bytes_eq (action_of y) (action_of s) ≡ b → bytes_eq (action_of y) (action_of s) ≡ false
        at true t = let u : bytes_eq (action_of s) (action_of y) ≡ true = (bytes_decides (action_of s) (action_of y)).1 (sym (name_is (action_of y) (action_of s) t)) in cc
        at false t = t

    -- those behind it
    none : (y : Rec) → is_before s y ≡ true → ran_of e (action_of s) y ≡ None
    none y h = other_none e (action_of s) y (flip y (before_other s y h))

    go : (b c : Bool) → is_before x s ≡ b → same_action x s ≡ c → filter_map (ran_of e (action_of s)) (with_step xs s) ≡ filter_map (ran_of e (action_of s)) (s ∷ [])
        → filter_map (ran_of e (action_of s)) (cond b (x ∷ with_step xs s) (cond c (s ∷ xs) (s ∷ x ∷ xs))) ≡ filter_map (ran_of e (action_of s)) (s ∷ [])
    go true c p r ih = ap (λ z. cons_option z (filter_map (ran_of e (action_of s)) (with_step xs s))) (other_none e (action_of s) x (before_other x s p)) ∙ ih
    go false true p r ih =
        let behind : Each (λ y. ran_of e (action_of s) y ≡ None) xs = each_sub (λ y. is_before x y ≡ true) (λ y. ran_of e (action_of s) y ≡ None) xs
        (λ y h. none y (subst (λ n. is_lt (slice_cmp nat_cmp n (action_of y)) ≡ true) (name_is (action_of x) (action_of s) r) h)) o.0 in
        ap (cons_option (ran_of e (action_of s) s)) (fm_none (ran_of e (action_of s)) xs behind)
    go false false p r ih =
        let turned : is_before s x ≡ true = before_turned x s p r in
        let behind : Each (λ y. ran_of e (action_of s) y ≡ None) (x ∷ xs) = (none x turned, each_sub (λ y. is_before x y ≡ true) (λ y. ran_of e (action_of s) y ≡ None) xs (λ y h. none y (before_trans s x y turned h)) o.0) in
        ap (cons_option (ran_of e (action_of s) s)) (fm_none (ran_of e (action_of s)) (x ∷ xs) behind)

with_others : (e : EventId) (a : List ℕ) (steps : List Rec) (s : Rec) → bytes_eq (action_of s) a ≡ false → filter_map (ran_of e a) (with_step steps s) ≡ filter_map (ran_of e a) steps
with_others e a [] s h = ap (λ z. cons_option z []) (other_none e a s h)
with_others e a (x ∷ xs) s h = go (is_before x s) (same_action x s) refl (with_others e a xs s h)
  where
    off : ran_of e a s ≡ None
    off = other_none e a s h

    go : (b c : Bool) → same_action x s ≡ c → filter_map (ran_of e a) (with_step xs s) ≡ filter_map (ran_of e a) xs
        → filter_map (ran_of e a) (cond b (x ∷ with_step xs s) (cond c (s ∷ xs) (s ∷ x ∷ xs))) ≡ filter_map (ran_of e a) (x ∷ xs)
    go true c r ih = ap (cons_option (ran_of e a x)) ih
    go false true r ih =
        let gone : ran_of e a x ≡ None = other_none e a x (ap (λ n. bytes_eq n a) (name_is (action_of x) (action_of s) r) ∙ h) in
        ap (λ z. cons_option z (filter_map (ran_of e a) xs)) (off ∙ sym gone)
    go false false r ih = ap (λ z. cons_option z (filter_map (ran_of e a) (x ∷ xs))) off

-- what is kept of an action is its last step
abbrev Keeps : EventId → List ℕ → List Rec → List Rec → Type 0
Keeps e a steps rs = filter_map (ran_of e a) steps ≡ option_to_list (last_or None (filter_map (ran_of e a) rs))

keeps_on : (e : EventId) (a : List ℕ) (steps before : List Rec) (r : Rec) → ran_of e a r ≡ None → Keeps e a steps before → Keeps e a steps (before ++ r ∷ [])
keeps_on e a steps before r q h =
    h ∙ ap (λ xs. option_to_list (last_or None xs)) (sym (fm_append (ran_of e a) before (r ∷ []) ∙ ap (λ o. filter_map (ran_of e a) before ++ cons_option o []) q ∙ append-nil (filter_map (ran_of e a) before)))

keeps_own : (e : EventId) (steps before : List Rec) (s : Rec) → (is_some (ran_of e (action_of s) s)) ≡ true → Ordered steps → Keeps e (action_of s) (with_step steps s) (before ++ s ∷ [])
keeps_own e steps before s there o =
    with_own e steps s o ∙ sym (ap (λ xs. option_to_list (last_or None xs)) (fm_append (ran_of e (action_of s)) before (s ∷ [])) ∙ last (ran_of e (action_of s) s) there (filter_map (ran_of e (action_of s)) before))
  where
    last : {A : Type 0} (x : Option A) → is_some x ≡ true → (xs : List A) → option_to_list (last_or None (xs ++ cons_option x [])) ≡ cons_option x []
    last None q xs = cc
    last (Some x) q xs = ap option_to_list (last_more None xs x)

-- the rest of the search, behind steps that are kept so
abbrev KeepsRest : EventId → List ℕ → List Rec → Type 0
KeepsRest e a rs = (steps before : List Rec) → Ordered steps → Keeps e a steps before → Keeps e a (steps_from e steps rs) (before ++ rs)

kept_one : (e : EventId) (a : List ℕ) (steps before : List Rec) (r : Rec) (rs : List Rec) → KeepsRest e a rs → Ordered steps → Keeps e a steps before → Keeps e a (steps_from e steps (r ∷ rs)) ((before ++ r ∷ []) ++ rs)
kept_one e a steps before (Step event action step now) rs rest o h = go (same_event e event) refl (bytes_eq action a) refl
  where
    go : (b : Bool) → same_event e event ≡ b → (c : Bool) → bytes_eq action a ≡ c
        → Keeps e a (steps_from e (cond b (with_step steps (Step event action step now)) steps) rs) ((before ++ Step event action step now ∷ []) ++ rs)
    go true q true r =
        let n : action ≡ a = name_is action a r in
        let there : is_some (ran_of e action (Step event action step now)) ≡ true = ran_on e action event action step now (and_both (same_event e event) (bytes_eq action action) q (name_self action)) in
        rest (with_step steps (Step event action step now)) (before ++ Step event action step now ∷ []) (with_ordered steps (Step event action step now) o)
        (subst (λ x. Keeps e x (with_step steps (Step event action step now)) (before ++ Step event action step now ∷ [])) n (keeps_own e steps before (Step event action step now) there o))
    go true q false r =
        rest (with_step steps (Step event action step now)) (before ++ Step event action step now ∷ []) (with_ordered steps (Step event action step now) o)
        (with_others e a steps (Step event action step now) r ∙ keeps_on e a steps before (Step event action step now) (other_none e a (Step event action step now) r) h)
    go false q c r = rest steps (before ++ Step event action step now ∷ []) o (keeps_on e a steps before (Step event action step now) (ran_off e a event action step now (ap (λ x. x && bytes_eq action a) q)) h)
kept_one e a steps before (Failure number host key why) rs rest o h = rest steps (before ++ Failure number host key why ∷ []) o (keeps_on e a steps before (Failure number host key why) refl h)
kept_one e a steps before (Problem event now severity suppressed host trigger name tags) rs rest o h =
    rest steps (before ++ Problem event now severity suppressed host trigger name tags ∷ []) o (keeps_on e a steps before (Problem event now severity suppressed host trigger name tags) refl h)
kept_one e a steps before (Recovery event by now cause) rs rest o h = rest steps (before ++ Recovery event by now cause ∷ []) o (keeps_on e a steps before (Recovery event by now cause) refl h)
kept_one e a steps before (Message event action step recipient subject body) rs rest o h =
    rest steps (before ++ Message event action step recipient subject body ∷ []) o (keeps_on e a steps before (Message event action step recipient subject body) refl h)

kept_from : (e : EventId) (a : List ℕ) (rs : List Rec) → KeepsRest e a rs
kept_from e a [] steps before o h = subst (Keeps e a steps) (sym (append-nil before)) h
kept_from e a (r ∷ rs) steps before o h =
    subst (Keeps e a (steps_from e steps (r ∷ rs))) (append_assoc before (r ∷ []) rs) (kept_one e a steps before r rs (λ st be od ke. kept_from e a rs st be od ke) o h)

-- What is open
abbrev Free : List Rec → List Rec → Type 0
Free before rs = Each (λ p. Each (λ b. StandsBehind b p) before) rs

free_none : (rs : List Rec) → Free [] rs
free_none [] = tt
free_none (r ∷ rs) = (tt, free_none rs)

free_more : (before : List Rec) (r : Rec) (rs : List Rec) → Free before rs → Each (StandsBehind r) rs → Free (before ++ r ∷ []) rs
free_more before r [] f e = tt
free_more before r (p ∷ rs) f e = (each_append (λ b. StandsBehind b p) before (r ∷ []) f.0 (e.0, tt), free_more before r rs f.1 e.1)

pub is_none : (e : EventId) (a : List ℕ) (r : Rec) → is_of e r ≡ false → step_of e a r ≡ None
is_none e a (Step event action step now) h = ap (λ b. cond (b && bytes_eq action a) (Some step) None) h
is_none e a (Failure number host key why) h = refl
is_none e a (Problem event now severity suppressed host trigger name tags) h = refl
is_none e a (Recovery event by now cause) h = refl
is_none e a (Message event action step recipient subject body) h = refl

not_run : (e : EventId) (a : List ℕ) (r : Rec) → is_of e r ≡ false → ran_of e a r ≡ None
not_run e a (Step event action step now) h = ran_off e a event action step now (ap (λ x. x && bytes_eq action a) h)
not_run e a (Failure number host key why) h = refl
not_run e a (Problem event now severity suppressed host trigger name tags) h = refl
not_run e a (Recovery event by now cause) h = refl
not_run e a (Message event action step recipient subject body) h = refl

abbrev pub KeptAs : List Rec → Open → Type 0
KeptAs rs o = (a : List ℕ) → Keeps (event_in o) a o.steps rs

pub kept_behind : (stage : Stage) (id : ℕ) (before rs : List Rec) → Free before rs → EachPair StandsBehind rs → Each (KeptAs (before ++ rs)) (open_of stage rs id)
kept_behind stage id before [] free pairs = tt
kept_behind stage id before (r ∷ rs) free pairs = go (opens stage id r) refl (not (list_any (recovers (event_of r)) rs))
    (subst (λ xs. Each (KeptAs xs) (open_of stage rs id)) (append_assoc before (r ∷ []) rs) (kept_behind stage id (before ++ r ∷ []) rs (free_more before r rs free.1 pairs.0) pairs.1))
  where
    own : (p : Rec) → opens stage id p ≡ true → Each (λ b. StandsBehind b p) before → (a : List ℕ) → Keeps (event_of p) a (steps_of (event_of p) rs) (before ++ p ∷ rs)
    own (Problem event now severity suppressed host trigger name tags) q f a =
        let none : filter_map (ran_of event a) before ≡ [] = fm_none (ran_of event a) before (each_sub (λ b. is_of event b ≡ false) (λ b. ran_of event a b ≡ None) before (λ b h. not_run event a b h) f) in
        kept_from event a rs [] [] tt refl
        ∙ ap (λ xs. option_to_list (last_or None xs)) (sym (fm_append (ran_of event a) before (Problem event now severity suppressed host trigger name tags ∷ rs) ∙ ap (λ xs. xs ++ filter_map (ran_of event a) rs) none))
    own (Recovery event by now cause) q f a = cc
    own (Failure number host key why) q f a = cc
    own (Step event action step now) q f a = cc
    own (Message event action step recipient subject body) q f a = cc

    go : (x : Bool) → opens stage id r ≡ x → (y : Bool) → Each (KeptAs (before ++ r ∷ rs)) (open_of stage rs id) → Each (KeptAs (before ++ r ∷ rs)) (cond (x && y) (opened stage r rs ∷ open_of stage rs id) (open_of stage rs id))
    go true q true ih = (own r q free.0, ih)
    go true q false ih = ih
    go false q y ih = ih

pub kept_all : (stage : Stage) (rs : List Rec) → EachPair StandsBehind rs → (id : ℕ) → Each (KeptAs rs) (open_of stage rs id)
kept_all stage rs pairs id = kept_behind stage id [] rs (free_none rs) pairs

pub open_has : (P : EventId → Type 0) (stage : Stage) (id : ℕ) (rs : List Rec) → Each (OfProblem P) rs → Each (λ o. P (event_in o)) (open_of stage rs id)
open_has P stage id [] e = tt
open_has P stage id (r ∷ rs) e = go (opens stage id r) refl (not (list_any (recovers (event_of r)) rs)) (open_has P stage id rs e.1)
  where
    own : (r : Rec) → OfProblem P r → opens stage id r ≡ true → P (event_of r)
    own (Problem event now severity suppressed host trigger name tags) d q = d
    own (Recovery event by now cause) d q = cc
    own (Failure number host key why) d q = cc
    own (Step event action step now) d q = cc
    own (Message event action step recipient subject body) d q = cc

    go : (a : Bool) → opens stage id r ≡ a → (b : Bool) → Each (λ o. P (event_in o)) (open_of stage rs id) → Each (λ o. P (event_in o)) (cond (a && b) (opened stage r rs ∷ open_of stage rs id) (open_of stage rs id))
    go true q true ih = (own r e.0 q, ih)
    go true q false ih = ih
    go false q b ih = ih

open_home : (stage : Stage) (id : ℕ) (rs : List Rec) → Each (λ o. home stage (event_in o) ≡ id) (open_of stage rs id)
open_home stage id [] = tt
open_home stage id (r ∷ rs) = go (opens stage id r) refl (not (list_any (recovers (event_of r)) rs)) (open_home stage id rs)
  where
    own : (r : Rec) → opens stage id r ≡ true → home stage (event_of r) ≡ id
    own (Problem event now severity suppressed host trigger name tags) q = eqb-true (home stage event) id q
    own (Recovery event by now cause) q = cc
    own (Failure number host key why) q = cc
    own (Step event action step now) q = cc
    own (Message event action step recipient subject body) q = cc

    go : (a : Bool) → opens stage id r ≡ a → (b : Bool) → Each (λ o. home stage (event_in o) ≡ id) (open_of stage rs id) → Each (λ o. home stage (event_in o) ≡ id) (cond (a && b) (opened stage r rs ∷ open_of stage rs id) (open_of stage rs id))
    go true q true ih = (own r q, ih)
    go true q false ih = ih
    go false q b ih = ih

-- two open problems are of different events
abbrev pub Differ : Open → Open → Type 0
Differ o x = same_event (event_in o) (event_in x) ≡ false

open_differ : (stage : Stage) (id : ℕ) (rs : List Rec) → EachPair StandsBehind rs → EachPair Differ (open_of stage rs id)
open_differ stage id [] e = tt
open_differ stage id (r ∷ rs) e = go (opens stage id r) refl (not (list_any (recovers (event_of r)) rs)) (open_differ stage id rs e.1)
  where
    own : (r : Rec) → opens stage id r ≡ true → Each (StandsBehind r) rs → Each (λ o. same_event (event_of r) (event_in o) ≡ false) (open_of stage rs id)
    own (Problem event now severity suppressed host trigger name tags) q f =
        open_has (λ v. same_event event v ≡ false) stage id rs (each_sub (StandsBehind (Problem event now severity suppressed host trigger name tags)) (OfProblem (λ v. same_event event v ≡ false)) rs one f)
      where
        one : (p : Rec) → StandsBehind (Problem event now severity suppressed host trigger name tags) p → OfProblem (λ v. same_event event v ≡ false) p
        one (Problem v n s b h t m g) is = other_flip v event is
        one (Recovery v by n cause) is = tt
        one (Failure number h key why) is = tt
        one (Step v action step n) is = tt
        one (Message v action step recipient subject body) is = tt
    own (Recovery event by now cause) q f = cc
    own (Failure number host key why) q f = cc
    own (Step event action step now) q f = cc
    own (Message event action step recipient subject body) q f = cc

    go : (a : Bool) → opens stage id r ≡ a → (b : Bool) → EachPair Differ (open_of stage rs id) → EachPair Differ (cond (a && b) (opened stage r rs ∷ open_of stage rs id) (open_of stage rs id))
    go true q true ih = (own r q e.0, ih)
    go true q false ih = ih
    go false q b ih = ih

pairs_append : {A : Type 0} (R : A → A → Type 0) (xs ys : List A) → EachPair R xs → EachPair R ys → ((x y : A) → In x xs → In y ys → R x y) → EachPair R (xs ++ ys)
pairs_append R [] ys a b h = b
pairs_append R (x ∷ xs) ys a b h = (each_append (R x) xs ys a.0 (each_from (R x) ys (λ y j. h x y (inl refl) j)), pairs_append R xs ys a.1 b (λ y z i j. h y z (inr i) j))

pairs_put : {A : Type 0} (R : A → A → Type 0) (k : A → ℕ) → ((x y : A) → R x y → R y x) → (a : A) (xs : List A) → Each (R a) xs → EachPair R xs → EachPair R (put_by k a xs)
pairs_put R k turn a [] e p = (tt, tt)
pairs_put {A} R k turn a (x ∷ xs) e p = go (nat_le (k a) (k x)) (pairs_put R k turn a xs e.1 p.1)
  where
    put : (y : A) (ys : List A) → R y a → Each (R y) ys → Each (R y) (put_by k a ys)
    put y [] r f = (r, tt)
    put y (z ∷ zs) r f = at (nat_le (k a) (k z)) (put y zs r f.1)
      where
        at : (b : Bool) → Each (R y) (put_by k a zs) → Each (R y) (cond b (a ∷ z ∷ zs) (z ∷ put_by k a zs))
        at true ih = (r, f)
        at false ih = (f.0, ih)

    go : (b : Bool) → EachPair R (put_by k a xs) → EachPair R (cond b (a ∷ x ∷ xs) (x ∷ put_by k a xs))
    go true ih = (e, p)
    go false ih = (put x xs (turn a x e.0) p.0, ih)

pairs_sorted : {A : Type 0} (R : A → A → Type 0) (k : A → ℕ) → ((x y : A) → R x y → R y x) → (xs : List A) → EachPair R xs → EachPair R (sorted_by k xs)
pairs_sorted R k turn [] p = tt
pairs_sorted R k turn (x ∷ xs) p = pairs_put R k turn x (sorted_by k xs) (each_sorted k (R x) xs p.0) (pairs_sorted R k turn xs p.1)

homes_in : (stage : Stage) (rs : List Rec) (ids : List ℕ) → Each (λ o. In (home stage (event_in o)) ids) (flat_map (open_of stage rs) ids)
homes_in stage rs [] = tt
homes_in stage rs (id ∷ ids) =
    each_append (λ o. In (home stage (event_in o)) (id ∷ ids)) (open_of stage rs id) (flat_map (open_of stage rs) ids)
    (each_sub (λ o. home stage (event_in o) ≡ id) (λ o. In (home stage (event_in o)) (id ∷ ids)) (open_of stage rs id) (λ o h. inl h) (open_home stage id rs))
    (each_sub (λ o. In (home stage (event_in o)) ids) (λ o. In (home stage (event_in o)) (id ∷ ids)) (flat_map (open_of stage rs) ids) (λ o i. inr i) (homes_in stage rs ids))

all_differ : (stage : Stage) (rs : List Rec) → EachPair StandsBehind rs → (ids : List ℕ) → Once ids → EachPair Differ (flat_map (open_of stage rs) ids)
all_differ stage rs pairs [] once = tt
all_differ stage rs pairs (id ∷ ids) once =
    pairs_append Differ (open_of stage rs id) (flat_map (open_of stage rs) ids) (open_differ stage id rs pairs) (all_differ stage rs pairs ids once.1) cross
  where
    cross : (x y : Open) → In x (open_of stage rs id) → In y (flat_map (open_of stage rs) ids) → Differ x y
    cross x y i j = go (same_event (event_in x) (event_in y)) refl
      where
        here : home stage (event_in x) ≡ id
        here = each_at (λ o. home stage (event_in o) ≡ id) (open_of stage rs id) (open_home stage id rs) x i

        there : In (home stage (event_in y)) ids
        there = each_at (λ o. In (home stage (event_in o)) ids) (flat_map (open_of stage rs) ids) (homes_in stage rs ids) y j

        go : (b : Bool) → same_event (event_in x) (event_in y) ≡ b → same_event (event_in x) (event_in y) ≡ false
        go true q = absurd (once.0 (subst (λ k. In k ids) (sym (ap (home stage) (same_is (event_in x) (event_in y) q)) ∙ here) there))
        go false q = q

pub making_differ : (stage : Stage) (rs : List Rec) → EachPair StandsBehind rs → EachPair Differ (by_making stage (open_of stage rs))
unfolding by_making
making_differ stage rs pairs =
    let found : List Open = flat_map (open_of stage rs) (order stage.conf) in
    let turn : (x y : Open) → Differ x y → Differ y x = λ x y h. other_flip (event_in x) (event_in y) h in
    pairs_sorted Differ (λ o. (event_in o).number) turn (sorted_by (λ o. rank_of stage (event_in o)) (sorted_by (λ o. (event_in o).trigger) found))
    (pairs_sorted Differ (λ o. rank_of stage (event_in o)) turn (sorted_by (λ o. (event_in o).trigger) found)
    (pairs_sorted Differ (λ o. (event_in o).trigger) turn found (all_differ stage rs pairs (order stage.conf) (once_order stage.conf))))

pub making_each : (P : Open → Type 0) (stage : Stage) (all : ℕ → List Open) → ((id : ℕ) → Each P (all id)) → Each P (by_making stage all)
unfolding by_making
making_each P stage all h = by_event_each stage event_in P (flat_map all (order stage.conf)) (each_flat_map P all (order stage.conf) h)

-- What actions add
-- at most one step, the next one
abbrev pub AtMost : ℕ → List ℕ → Type 0
AtMost next ns = (ns ≡ []) ⊎ (ns ≡ next ∷ [])

pub at_most_counts : (next : ℕ) (ns : List ℕ) → AtMost next ns → Count next ns
at_most_counts next ns (inl e) = subst (Count next) (sym e) tt
at_most_counts next ns (inr e) = subst (Count next) (sym e) (refl, tt)

-- a record is neither a Problem nor a step
abbrev pub IsPlain : Rec → Type 0
IsPlain (Problem event now severity suppressed host trigger name tags) = ⊥
IsPlain (Step event action step now) = ⊥
IsPlain (Recovery event by now cause) = Unit {0}
IsPlain (Failure number host key why) = Unit {0}
IsPlain (Message event action step recipient subject body) = Unit {0}

plain_none : (e : EventId) (a : List ℕ) (r : Rec) → IsPlain r → step_of e a r ≡ None
plain_none e a (Problem event now severity suppressed host trigger name tags) h = absurd h
plain_none e a (Step event action step now) h = absurd h
plain_none e a (Recovery event by now cause) h = refl
plain_none e a (Failure number host key why) h = refl
plain_none e a (Message event action step recipient subject body) h = refl

pub plain_runs : (e : EventId) (a : List ℕ) (rs : List Rec) → Each IsPlain rs → steps_run e a rs ≡ []
plain_runs e a rs h = runs_none e a rs (each_sub IsPlain (λ r. step_of e a r ≡ None) rs (λ r p. plain_none e a r p) h)

messages_plain : (conf : Conf) (problem : Rec) (recovered : Option ℕ) (action : List ℕ) (step : ℕ) (subject body : List ℕ) (recipients : List (List ℕ)) → Each IsPlain (map (message_to conf problem recovered action step subject body) recipients)
messages_plain conf problem recovered action step subject body [] = tt
messages_plain conf problem recovered action step subject body (r ∷ rs) = (tt, messages_plain conf problem recovered action step subject body rs)

sent_plain : (conf : Conf) (problem : Rec) (steps : List Rec) (now : ℕ) → Each IsPlain (recovered_records conf problem steps now)
sent_plain conf problem steps now = each_flat_map IsPlain (recovery_records conf problem steps now) conf.actions one
  where
    sent : (action : Action) → Each IsPlain (flat_map (sending_records conf problem now action.name) action.recovery)
    sent action = each_flat_map IsPlain (sending_records conf problem now action.name) action.recovery (λ sending. messages_plain conf problem (Some now) action.name 0 sending.subject sending.body sending.recipients)

    one : (action : Action) → Each IsPlain (recovery_records conf problem steps now action)
    one action = each_cond IsPlain (is_some (last_step steps (event_of problem) action.name)) (flat_map (sending_records conf problem now action.name) action.recovery) [] (sent action) tt

pub closed_plain : (conf : Conf) (number now : ℕ) (cause : Cause2) (os : EventId → List Open) (events : List EventId) → Each IsPlain (flat_map (λ e. closed_records conf number now cause (os e) e) events)
closed_plain conf number now cause os events =
    each_flat_map IsPlain (λ e. closed_records conf number now cause (os e) e) events
    (λ e. (tt, each_flat_map IsPlain (λ o. recovered_records conf o.problem o.steps now) (filter (λ o. same_event (event_in o) e) (os e)) (λ o. sent_plain conf o.problem o.steps now)))

pub failures_plain : (conf : Conf) (memory : Memory) (number : ℕ) (entry : Entry) → Each IsPlain (failures_at conf memory number entry)
unfolding failures_at
failures_plain conf memory number entry = go (visits_at conf memory number entry)
  where
    by : (rest : List Rec) → Each IsPlain rest → (x : Option Item) (why : List ℕ) → Each IsPlain (cons_option (failure_by conf number why x) rest)
    by rest h None why = h
    by rest h (Some item) why = (tt, h)

    one : (v : Visit) (rest : List Rec) → Each IsPlain rest → (o : ItemOutcome) → Each IsPlain (cons_option (failure_of conf number v o) rest)
    one v rest h (outcome.Stored s) = h
    one v rest h outcome.Discarded = h
    one v rest h (outcome.Failed why) = by rest h (at_id conf.items v.item) why

    go : (visits : List Visit) → Each IsPlain (failures_of conf number visits)
    go [] = tt
    go (v ∷ visits) = one v (failures_of conf number visits) (go visits) v.outcome

-- the next step of an action
next_is : (conf : Conf) (quiet : Bool) (steps : List Rec) (problem : Rec) (action : Action) (now k : ℕ) → next_step conf quiet steps problem action now ≡ Some k → k ≡ number_behind (last_step steps (event_of problem) action.name)
unfolding next_step step_due
next_is conf quiet steps problem action now k e =
    go (is_matched conf action problem && not (action.pause_suppressed && quiet))
    (step_exists action (number_behind (last_step steps (event_of problem) action.name)) && is_due action now (last_step steps (event_of problem) action.name)) e
  where
    go : (a b : Bool) → cond a (cond b (Some (number_behind (last_step steps (event_of problem) action.name))) None) None ≡ Some k → k ≡ number_behind (last_step steps (event_of problem) action.name)
    go true true q = cc
    go true false q = cc
    go false b q = cc

module _ (conf : Conf) (problem : Rec) (steps : List Rec) (now : ℕ) (e : EventId) (a : List ℕ) where
  sent_runs : (action : Action) (k : ℕ) → steps_run e a (flat_map (operation_records conf problem action.name k) (operations_of action k)) ≡ []
  sent_runs action k =
      plain_runs e a (flat_map (operation_records conf problem action.name k) (operations_of action k))
      (each_flat_map IsPlain (operation_records conf problem action.name k) (operations_of action k) (λ operation. messages_plain conf problem None action.name k operation.subject operation.body operation.recipients))

  -- the steps of an action, whose event and name are these or not
  own_runs : (action : Action) (k : ℕ) → same_event e (event_of problem) ≡ true → bytes_eq action.name a ≡ true → steps_run e a (step_records conf problem now action k) ≡ k ∷ []
  own_runs action k q n =
      ap (λ b. cons_option (cond b (Some k) None) (steps_run e a (flat_map (operation_records conf problem action.name k) (operations_of action k)))) (and_both (same_event e (event_of problem)) (bytes_eq action.name a) q n)
      ∙ ap (λ xs. k ∷ xs) (sent_runs action k)

  no_runs : (action : Action) (k : ℕ) → (same_event e (event_of problem) && bytes_eq action.name a) ≡ false → steps_run e a (step_records conf problem now action k) ≡ []
  no_runs action k n =
      ap (λ b. cons_option (cond b (Some k) None) (steps_run e a (flat_map (operation_records conf problem action.name k) (operations_of action k)))) n ∙ sent_runs action k

  no_next : (action : Action) (o : Option ℕ) → (same_event e (event_of problem) && bytes_eq action.name a) ≡ false → steps_run e a (records_at conf problem now action o) ≡ []
  no_next action None n = refl
  no_next action (Some k) n = no_runs action k n

  module _ (quiet : Bool) where
    abbrev its : Action → List Rec
    its action = next_records conf quiet problem steps now action

    no_its : (action : Action) → (same_event e (event_of problem) && bytes_eq action.name a) ≡ false → steps_run e a (its action) ≡ []
    unfolding next_records
    no_its action n = no_next action (next_step conf quiet steps problem action now) n

    one_its : (action : Action) → same_event e (event_of problem) ≡ true → bytes_eq action.name a ≡ true → AtMost (number_behind (last_step steps (event_of problem) a)) (steps_run e a (its action))
    unfolding next_records
    one_its action q n = go (next_step conf quiet steps problem action now) refl
      where
        go : (o : Option ℕ) → next_step conf quiet steps problem action now ≡ o → AtMost (number_behind (last_step steps (event_of problem) a)) (steps_run e a (records_at conf problem now action o))
        go None r = inl refl
        go (Some k) r = inr (own_runs action k q n ∙ ap (λ x. x ∷ []) (next_is conf quiet steps problem action now k r ∙ ap (λ x. number_behind (last_step steps (event_of problem) x)) (name_is action.name a n)))

    none_its : (actions : List Action) → Each (λ x. (same_event e (event_of problem) && bytes_eq x.name a) ≡ false) actions → steps_run e a (flat_map its actions) ≡ []
    none_its [] h = refl
    none_its (x ∷ xs) h = runs_append e a (its x) (flat_map its xs) ∙ ap (λ ys. ys ++ steps_run e a (flat_map its xs)) (no_its x h.0) ∙ none_its xs h.1

    all_its : (actions : List Action) → HaveOwnNames actions → same_event e (event_of problem) ≡ true → AtMost (number_behind (last_step steps (event_of problem) a)) (steps_run e a (flat_map its actions))
    all_its [] own q = inl refl
    all_its (x ∷ xs) own q = go (bytes_eq x.name a) refl (all_its xs own.1 q)
      where
        go : (b : Bool) → bytes_eq x.name a ≡ b → AtMost (number_behind (last_step steps (event_of problem) a)) (steps_run e a (flat_map its xs)) → AtMost (number_behind (last_step steps (event_of problem) a)) (steps_run e a (its x ++ flat_map its xs))
        go true n ih =
            let others : Each (λ y. (same_event e (event_of problem) && bytes_eq y.name a) ≡ false) xs = each_sub (λ y. x.name ≢ y.name) (λ y. (same_event e (event_of problem) && bytes_eq y.name a) ≡ false) xs other own.0 in
            subst (AtMost (number_behind (last_step steps (event_of problem) a))) (sym (runs_append e a (its x) (flat_map its xs) ∙ ap (λ ys. steps_run e a (its x) ++ ys) (none_its xs others) ∙ append-nil (steps_run e a (its x)))) (one_its x q n)
          where
            other : (y : Action) → x.name ≢ y.name → (same_event e (event_of problem) && bytes_eq y.name a) ≡ false
            other y ne = at (bytes_eq y.name a) refl (same_event e (event_of problem))
              where
                at : (c : Bool) → bytes_eq y.name a ≡ c → (d : Bool) → (d && bytes_eq y.name a) ≡ false
                at true r d = absurd (ne (name_is x.name a n ∙ sym (name_is y.name a r)))
                at false r true = r
                at false r false = refl
        go false n ih =
            let off : (same_event e (event_of problem) && bytes_eq x.name a) ≡ false = both_off (same_event e (event_of problem)) (bytes_eq x.name a) n in
            subst (AtMost (number_behind (last_step steps (event_of problem) a))) (sym (runs_append e a (its x) (flat_map its xs) ∙ ap (λ ys. ys ++ steps_run e a (flat_map its xs)) (no_its x off))) ih

    stranger : same_event e (event_of problem) ≡ false → (actions : List Action) → Each (λ x. (same_event e (event_of problem) && bytes_eq x.name a) ≡ false) actions
    stranger q [] = tt
    stranger q (x ∷ xs) = (ap (λ b. b && bytes_eq x.name a) q, stranger q xs)

  pub due_own : (trigger : ℕ) → HaveOwnNames conf.actions → same_event e (event_of problem) ≡ true → AtMost (number_behind (last_step steps (event_of problem) a)) (steps_run e a (due_records_of conf trigger problem steps now))
  unfolding due_records_of
  due_own trigger own q = all_its (is_suppressed conf trigger (tags_of problem) now) conf.actions own q

  pub due_other : (trigger : ℕ) → same_event e (event_of problem) ≡ false → steps_run e a (due_records_of conf trigger problem steps now) ≡ []
  unfolding due_records_of
  due_other trigger q = none_its (is_suppressed conf trigger (tags_of problem) now) conf.actions (stranger (is_suppressed conf trigger (tags_of problem) now) q conf.actions)
