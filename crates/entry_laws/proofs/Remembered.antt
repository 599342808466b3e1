-- In a whole log a step remembers what the last entry left from which it is carried and that marked it.
use Rattle.std.proofs.Common.{◌≡◌, ◌+◌, ◌-◌, ◌<◌, ◌≤◌, ◌==◌, ◌&&◌, ◌⊎◌, inl, inr, ℕ, zero, suc, Bool, true, false, cond, Option, Some, None, List, [], ◌∷◌, length, map, is_some, refl, sym, ◌∙◌, ap, ap₂, eqb-true, eq-eqb, arith}
use mathlib.Core.Path.{fun_ext}
use Rattle.std.specs.Prelude.{option_and_then}
use Rattle.std.specs.List.{position_from}
use Rattle.std.specs.Option.{option_map_or, unwrap_or}
use Rattle.std.specs.Cmp.Lexicographic.{pointwise, pointwise_decides, bytes_decides}
use Rattle.std.specs.Str.{bytes_eq}
use Rattle.std.proofs.lemmas.Bool.{cases_order}
use Rattle.zbx_types.specs.Hosts.{host_name}
use Rattle.zbx_types.specs.Ids.{at_id}
use Rattle.zbx_types.specs.declared.conf.Conf.{Conf}
use Rattle.zbx_types.specs.declared.entries.Entry.{Entry}
use Rattle.zbx_types.specs.declared.entries.Entry.TheVariants.{Config, Value, Tick}
use Rattle.zbx_types.specs.declared.entries.Numbered.{Numbered}
use Rattle.zbx_types.specs.declared.items.Item.{Item}
use Rattle.zbx_types.specs.declared.items.ValueType.{ValueType}
use Rattle.zbx_types.specs.declared.items.ValueType.TheVariants.{Number, Words}
use Rattle.zbx_types.specs.declared.steps.StepSpec.{StepSpec}
use Rattle.zbx_types.proofs.RowLemmas.{at_zero, at_suc}
use Rattle.prep_steps.specs.Outcomes.{unmarked}
use Rattle.prep_steps.specs.declared.memory.StepMemory.{StepMemory}
use Rattle.preprocess.specs.Cells.{no_marks}
use Rattle.preprocess.specs.Draft.{visit_at, marks_after}
use Rattle.preprocess.specs.Visits.{Arrival, came, visits_of}
use Rattle.preprocess.specs.Ways.{memory_at}
use Rattle.preprocess.specs.Carry.{same_type, goes_on_as, old_item, kind_number, fail_number, same_step, carried_along, steps_of, carried_for, carried_marks}
use Rattle.entry_step.specs.History.{marks_of, memory_of}
use Rattle.entry_laws.specs.Previous.{mark_in, mark_of, marked_at, last_mark, HasMarks}
use Rattle.entry_laws.specs.Remembered.{same_steps, is_carried, mark_at, remembered, marked_for, previous_with, previous, HasApart, HasNoOther, PreviousInWhole}
use Rattle.entry_step.specs.Start.{Start}
use Rattle.entry_step.specs.Whole.{Point, point_with, point}
use Rattle.entry_step.proofs.Finding.{same_text, text_same, at_place, none_passes}
use Rattle.entry_step.proofs.Members.{and_left, and_right, and_both}
use Rattle.entry_laws.proofs.Previous.{past, long_is, previous_is}
use Rattle.entry_step.proofs.Visited.{absent}

-- Equal steps
abbrev test : StepSpec → ℕ → List (List ℕ) → ℕ → List ℕ → Bool
test x kind params fails text = (kind_number x.kind == kind) && pointwise bytes_eq x.params params && (fail_number x.on_fail == fails) && bytes_eq x.text text

step_keyed : (a b : StepSpec) → same_step a b ≡ true → (x : StepSpec) → same_step x a ≡ same_step x b
step_keyed a b e x =
    let k : Bool = kind_number a.kind == kind_number b.kind in
    let p : Bool = pointwise bytes_eq a.params b.params in
    let f : Bool = fail_number a.on_fail == fail_number b.on_fail in
    let t : Bool = bytes_eq a.text b.text in
    let three : (k && p && f) ≡ true = and_left (k && p && f) t e in
    let two : (k && p) ≡ true = and_left (k && p) f three in
    let kind = eqb-true (kind_number a.kind) (kind_number b.kind) (and_left k p two) in
    let params = (pointwise_decides bytes_decides a.params b.params).0 (and_right k p two) in
    let fails = eqb-true (fail_number a.on_fail) (fail_number b.on_fail) (and_right (k && p) f three) in
    let text = same_text a.text b.text (and_right (k && p && f) t e) in
    ap₂ (λ y ps. test x y ps (fail_number a.on_fail) a.text) kind params ∙ ap₂ (λ y w. test x (kind_number b.kind) b.params y w) fails text

step_self : (a : StepSpec) → same_step a a ≡ true
step_self a =
    let k : Bool = kind_number a.kind == kind_number a.kind in
    let p : Bool = pointwise bytes_eq a.params a.params in
    let f : Bool = fail_number a.on_fail == fail_number a.on_fail in
    and_both (k && p && f) (bytes_eq a.text a.text)
    (and_both (k && p) f (and_both k p (eq-eqb (kind_number a.kind) (kind_number a.kind) refl) ((pointwise_decides bytes_decides a.params a.params).1 refl)) (eq-eqb (fail_number a.on_fail) (fail_number a.on_fail) refl))
    (text_same a.text a.text refl)

steps_keyed : (n : ℕ) (xs ys : List StepSpec) → same_steps n xs ys ≡ true → (zs : List StepSpec) → same_steps n zs xs ≡ same_steps n zs ys
steps_keyed zero xs ys e zs = refl
steps_keyed (suc n) [] ys e zs = absurd (cc)
steps_keyed (suc n) (x ∷ xs) [] e zs = absurd (cc)
steps_keyed (suc n) (x ∷ xs) (y ∷ ys) e [] = refl
steps_keyed (suc n) (x ∷ xs) (y ∷ ys) e (z ∷ zs) =
    ap₂ (λ a b. a && b) (step_keyed x y (and_left (same_step x y) (same_steps n xs ys) e) z) (steps_keyed n xs ys (and_right (same_step x y) (same_steps n xs ys) e) zs)

own_steps : (n : ℕ) (xs : List StepSpec) → n ≤ length xs → same_steps n xs xs ≡ true
own_steps zero xs l = refl
own_steps (suc n) [] l = absurd (omega arith)
own_steps (suc n) (x ∷ xs) l = and_both (same_step x x) (same_steps n xs xs) (step_self x) (own_steps n xs (omega arith))

beyond_steps : (n : ℕ) (xs ys : List StepSpec) → length ys < n → same_steps n xs ys ≡ false
beyond_steps zero xs ys l = absurd (omega arith)
beyond_steps (suc n) [] ys l = refl
beyond_steps (suc n) (x ∷ xs) [] l = refl
beyond_steps (suc n) (x ∷ xs) (y ∷ ys) l = ap (λ b. same_step x y && b) (beyond_steps n xs ys (omega arith)) ∙ off (same_step x y)
  where
    off : (b : Bool) → (b && false) ≡ false
    off true = refl
    off false = refl

-- Items that go on as one another
record Alike (conf : Conf) (item : Item) (other : Conf) (it : Item) : Type 0 where
  host : host_name (at_id conf.hosts item.host) ≡ host_name (at_id other.hosts it.host)
  key : item.key ≡ it.key
  type : item.value_type ≡ it.value_type

type_same : (a b : ValueType) → same_type a b ≡ true → a ≡ b
type_same Number Number e = refl
type_same Words Words e = refl
type_same Number Words e = absurd (cc)
type_same Words Number e = absurd (cc)

type_self : (a : ValueType) → same_type a a ≡ true
type_self Number = refl
type_self Words = refl

abbrev item_of : Conf → List ℕ → List ℕ → ValueType → Option ℕ
item_of old host key type = position_from (λ (x : Item). bytes_eq (host_name (at_id old.hosts x.host)) host && bytes_eq x.key key && same_type x.value_type type) 1 old.items

old_same : (old conf other : Conf) (item it : Item) → Alike conf item other it → old_item old conf item ≡ old_item old other it
old_same old conf other item it a =
    ap (λ h. item_of old h item.key item.value_type) a.host ∙ ap₂ (λ k t. item_of old (host_name (at_id other.hosts it.host)) k t) a.key a.type

record Old (old conf : Conf) (item : Item) (id : ℕ) : Type 0 where
  before : Item
  there : at_id old.items id ≡ Some before
  alike : Alike old before conf item

found_old : (old conf : Conf) (item : Item) (id : ℕ) → old_item old conf item ≡ Some id → Old old conf item id
found_old old conf item id e =
    let r = at_place (λ (x : Item). goes_on_as old conf x item) 1 old.items id e in
    let x = r.2.0 in
    let h : Bool = bytes_eq (host_name (at_id old.hosts x.host)) (host_name (at_id conf.hosts item.host)) in
    let k : Bool = bytes_eq x.key item.key in
    let t : Bool = same_type x.value_type item.value_type in
    let two : (h && k) ≡ true = and_left (h && k) t r.2.2 in
    let at : id ≡ suc r.0 = r.1 ∙ (let z : 1 + r.0 ≡ suc r.0 = omega arith in z) in
    record {
      before = x;
      there = ap (at_id old.items) at ∙ at_suc old.items r.0 ∙ r.2.1;
      alike = record {
        host = same_text (host_name (at_id old.hosts x.host)) (host_name (at_id conf.hosts item.host)) (and_left h k two);
        key = same_text x.key item.key (and_right h k two);
        type = type_same x.value_type item.value_type (and_right (h && k) t r.2.2);
      };
    }

own_item : (conf : Conf) → HasApart conf → (id : ℕ) (item : Item) → at_id conf.items id ≡ Some item → old_item conf conf item ≡ Some id
own_item conf apart id item there = go (old_item conf conf item) refl
  where
    host : List ℕ
    host = host_name (at_id conf.hosts item.host)

    goes : goes_on_as conf conf item item ≡ true
    goes =
        and_both (bytes_eq host host && bytes_eq item.key item.key) (same_type item.value_type item.value_type)
        (and_both (bytes_eq host host) (bytes_eq item.key item.key) (text_same host host refl) (text_same item.key item.key refl)) (type_self item.value_type)

    none : (k : ℕ) → at_id conf.items k ≡ Some item → old_item conf conf item ≡ None → ⊥
    none zero t e = let z : None ≡ Some item = sym (at_zero conf.items) ∙ t in absurd (cc)
    none (suc place) t e =
        let f = none_passes (λ (x : Item). goes_on_as conf conf x item) 1 conf.items place item e (sym (at_suc conf.items place) ∙ t) in
        let z : true ≡ false = sym goes ∙ f in absurd (cc)

    go : (x : Option ℕ) → old_item conf conf item ≡ x → x ≡ Some id
    go None e = absurd (none id there e)
    go (Some k) e =
        let f = found_old conf conf item k e in
        ap (λ n. Some n) (apart k id f.before item f.there there (text_same (host_name (at_id conf.hosts f.before.host)) host f.alike.host) (text_same f.before.key item.key f.alike.key))

carried_same : (old conf other : Conf) (item it : Item) (place : ℕ) → Alike conf item other it → same_steps (suc place) item.steps it.steps ≡ true → is_carried old conf item place ≡ is_carried old other it place
carried_same old conf other item it place a e = go (old_item old conf item) ∙ ap (λ o. option_map_or (λ before. same_steps (suc place) (steps_of old before) it.steps) o false) (old_same old conf other item it a)
  where
    go : (o : Option ℕ) → option_map_or (λ before. same_steps (suc place) (steps_of old before) item.steps) o false ≡ option_map_or (λ before. same_steps (suc place) (steps_of old before) it.steps) o false
    go None = refl
    go (Some before) = steps_keyed (suc place) item.steps it.steps e (steps_of old before)

-- an item of a configuration is carried from it with the steps that it has
own_carried : (conf : Conf) → HasApart conf → (id : ℕ) (item : Item) (place : ℕ) → at_id conf.items id ≡ Some item → is_carried conf conf item place ≡ same_steps (suc place) item.steps item.steps
own_carried conf apart id item place there =
    ap (λ o. option_map_or (λ before. same_steps (suc place) (steps_of conf before) item.steps) o false) (own_item conf apart id item there)
    ∙ ap (λ x. same_steps (suc place) (option_map_or (λ (i : Item). i.steps) x []) item.steps) there

-- The search
module _ (flat : List ℕ → Conf) (start : Start) where
  same_previous : (conf other : Conf) (item it : Item) (place : ℕ) → Alike conf item other it → same_steps (suc place) item.steps it.steps ≡ true → (log : List Numbered)
      → previous flat start log conf item place ≡ previous flat start log other it place
  same_previous conf other item it place a e [] =
      ap₂ (λ b o. cond b (option_map_or (λ i. mark_at (start.marks i) place) o unmarked) unmarked) (carried_same start.stage.conf conf other item it place a e) (old_same start.stage.conf conf other item it a)
  same_previous conf other item it place a e (n ∷ log) = go n.entry (same_previous conf other item it place a e log)
    where
      old : Conf
      old = (point flat start log).start.stage.conf

      marked : marked_for old (previous flat start log) n conf item place ≡ marked_for old (previous flat start log) n other it place
      marked =
          ap₂ (λ b o. cond b (option_map_or (λ i. marked_at old (remembered old (previous flat start log)) n.number n.entry i (suc place)) o None) None)
          (carried_same old conf other item it place a e) (old_same old conf other item it a)

      go : (entry : Entry) → previous flat start log conf item place ≡ previous flat start log other it place
          → previous_with flat old (previous flat start log) n entry conf item place ≡ previous_with flat old (previous flat start log) n entry other it place
      go (Config now text) ih = ap₂ (λ b m. cond b m unmarked) (carried_same (flat text) conf other item it place a e) ih
      go (Value now i time value) ih = ap₂ (λ o m. unwrap_or o m) marked ih
      go (Tick now) ih = ap₂ (λ o m. unwrap_or o m) marked ih

  -- what isn't carried from the configuration in force remembers nothing
  none_previous : (conf : Conf) (item : Item) (place : ℕ) (log : List Numbered) → is_carried (point flat start log).start.stage.conf conf item place ≡ false → previous flat start log conf item place ≡ unmarked
  none_previous conf item place [] e = ap (λ b. cond b (option_map_or (λ i. mark_at (start.marks i) place) (old_item start.stage.conf conf item) unmarked) unmarked) e
  none_previous conf item place (n ∷ log) e = go n.entry e (none_previous conf item place log)
    where
      p : Point
      p = point flat start log

      go : (entry : Entry) → is_carried (point_with flat p n entry).start.stage.conf conf item place ≡ false → (is_carried p.start.stage.conf conf item place ≡ false → previous flat start log conf item place ≡ unmarked)
          → previous_with flat p.start.stage.conf (previous flat start log) n entry conf item place ≡ unmarked
      go (Config now text) e ih = ap (λ b. cond b (previous flat start log conf item place) unmarked) e
      go (Value now i time value) e ih =
          ap (λ b. unwrap_or (cond b (option_map_or (λ j. marked_at p.start.stage.conf (remembered p.start.stage.conf (previous flat start log)) n.number n.entry j (suc place)) (old_item p.start.stage.conf conf item) None) None) (previous flat start log conf item place)) e ∙ ih e
      go (Tick now) e ih =
          ap (λ b. unwrap_or (cond b (option_map_or (λ j. marked_at p.start.stage.conf (remembered p.start.stage.conf (previous flat start log)) n.number n.entry j (suc place)) (old_item p.start.stage.conf conf item) None) None) (previous flat start log conf item place)) e ∙ ih e

-- Marks that are carried along
unmarked_at : {A : Type 0} (xs : List A) (place : ℕ) → mark_at (map (λ x. unmarked) xs) place ≡ unmarked
unmarked_at [] place = refl
unmarked_at (x ∷ xs) zero = refl
unmarked_at (x ∷ xs) (suc place) = unmarked_at xs place

along_at : (olds : List StepSpec) (marks : List StepMemory) (steps : List StepSpec) (place : ℕ) → length marks ≡ length olds
    → mark_at (carried_along olds marks steps) place ≡ cond (same_steps (suc place) olds steps) (mark_at marks place) unmarked
along_at [] marks [] place l = refl
along_at (o ∷ olds) marks [] place l = refl
along_at [] marks (s ∷ steps) place l = unmarked_at (s ∷ steps) place
along_at (o ∷ olds) [] (s ∷ steps) place l = absurd (omega arith)
along_at (o ∷ olds) (m ∷ marks) (s ∷ steps) place l = go (λ k. along_at olds marks steps k (omega arith)) (same_step o s) place
  where
    go : ((k : ℕ) → mark_at (carried_along olds marks steps) k ≡ cond (same_steps (suc k) olds steps) (mark_at marks k) unmarked) → (b : Bool) (place : ℕ)
        → mark_at (cond b (m ∷ carried_along olds marks steps) (map (λ x. unmarked) (s ∷ steps))) place ≡ cond (b && same_steps place olds steps) (mark_at (m ∷ marks) place) unmarked
    go rest true zero = refl
    go rest true (suc k) = rest k
    go rest false k = unmarked_at (s ∷ steps) k

all_long : (xs : List StepSpec) → length (map (λ x. unmarked) xs) ≡ length xs
all_long [] = refl
all_long (x ∷ xs) = ap suc (all_long xs)

along_long : (olds : List StepSpec) (marks : List StepMemory) (steps : List StepSpec) → length (carried_along olds marks steps) ≡ length steps
along_long olds marks [] = refl
along_long [] marks (s ∷ steps) = all_long (s ∷ steps)
along_long (o ∷ olds) [] (s ∷ steps) = all_long (s ∷ steps)
along_long (o ∷ olds) (m ∷ marks) (s ∷ steps) = go (same_step o s) (along_long olds marks steps)
  where
    go : (b : Bool) → length (carried_along olds marks steps) ≡ length steps → length (cond b (m ∷ carried_along olds marks steps) (map (λ x. unmarked) (s ∷ steps))) ≡ length (s ∷ steps)
    go true rest = ap suc rest
    go false rest = all_long (s ∷ steps)

-- What is known of the start of a point
record Suited (p : Point) : Type 0 where
  apart : HasApart p.start.stage.conf
  has : HasMarks p.start
  other : HasNoOther p.start

module _ (flat : List ℕ → Conf) (each_apart : (text : List ℕ) → HasApart (flat text)) where
  carried_long : (old new : Conf) (marks : ℕ → List StepMemory) (i : ℕ) (item : Item) → at_id new.items i ≡ Some item → length (carried_marks old new marks i) ≡ length item.steps
  carried_long old new marks i item e = ap (λ x. length (option_map_or (carried_for old new marks) x [])) e ∙ go (old_item old new item)
    where
      go : (x : Option ℕ) → length (option_map_or (λ before. carried_along (steps_of old before) (marks before) item.steps) x (no_marks item)) ≡ length item.steps
      go None = all_long item.steps
      go (Some before) = along_long (steps_of old before) (marks before) item.steps

  suited_with : (p : Point) (e : Numbered) (entry : Entry) → Suited p → Suited (point_with flat p e entry)
  suited_with p e (Config now text) suits = record {
    apart = each_apart text;
    has = λ i item there. carried_long p.start.stage.conf (flat text) (marks_of p.start p.since) i item there;
    other = λ i none. ap (λ x. option_map_or (carried_for p.start.stage.conf (flat text) (marks_of p.start p.since)) x []) none;
  }
  suited_with p e (Value now item time value) suits = record { apart = suits.apart; has = suits.has; other = suits.other }
  suited_with p e (Tick now) suits = record { apart = suits.apart; has = suits.has; other = suits.other }

  suited_at : (start : Start) (log : List Numbered) → HasApart start.stage.conf → HasMarks start → HasNoOther start → Suited (point flat start log)
  suited_at start [] apart has other = record { apart = apart; has = has; other = other }
  suited_at start (e ∷ log) apart has other = suited_with (point flat start log) e e.entry (suited_at start log apart has other)

no_marks_of : (start : Start) → HasNoOther start → (log : List Numbered) (i : ℕ) → at_id start.stage.conf.items i ≡ None → marks_of start log i ≡ []
unfolding marks_of
no_marks_of start other [] i e = other i e
no_marks_of start other (n ∷ log) i e =
    ap (λ v. marks_after v (marks_of start log i)) (absent start.stage.conf (memory_of start log) n.number n.entry i e) ∙ no_marks_of start other log i e

-- a number and the place before it
number_same : (conf : Conf) (memory : ℕ → ℕ → StepMemory) (number : ℕ) (entry : Entry) (i k : ℕ) → marked_at conf memory number entry i k ≡ marked_at conf memory number entry i (suc (k - 1))
number_same conf memory number (Config now text) i k = refl
number_same conf memory number (Tick now) i k = refl
number_same conf memory number (Value now item time value) i k = go (at_id conf.items i)
  where
    arrival : Arrival
    arrival = record { item = item; time = time; number = number; value = value }

    go : (x : Option Item) → cond (is_some (visit_at (visits_of conf memory arrival) i)) (mark_of (memory i) time k x (came conf memory arrival (length conf.items) i)) None
        ≡ cond (is_some (visit_at (visits_of conf memory arrival) i)) (mark_of (memory i) time (suc (k - 1)) x (came conf memory arrival (length conf.items) i)) None
    go None = refl
    go (Some it) =
        let e : k - 1 ≡ suc (k - 1) - 1 = omega arith in
        ap (λ place. cond (is_some (visit_at (visits_of conf memory arrival) i)) (option_and_then (λ v. mark_in it.steps 1 (memory i) time place v) (came conf memory arrival (length conf.items) i)) None) e

-- one more entry of a piece
memory_with : (start : Start) → HasMarks start → (log : List Numbered) (e : Numbered) (i k : ℕ) → memory_of start (e ∷ log) i k ≡ unwrap_or (marked_at start.stage.conf (memory_of start log) e.number e.entry i k) (memory_of start log i k)
unfolding last_mark
memory_with start has log e i k =
    let same : last_mark start log ≡ memory_of start log = fun_ext (λ j. fun_ext (λ l. sym (previous_is start log has j l))) in
    previous_is start (e ∷ log) has i k ∙ ap (λ (f : ℕ → ℕ → StepMemory). unwrap_or (marked_at start.stage.conf f e.number e.entry i k) (f i k)) same

module _ (flat : List ℕ → Conf) (each_apart : (text : List ℕ) → HasApart (flat text)) (start : Start) (apart : HasApart start.stage.conf) (has : HasMarks start) (other : HasNoOther start) where
  abbrev Holds : List Numbered → ℕ → ℕ → Type 0
  Holds log i k = memory_of (point flat start log).start (point flat start log).since i k ≡ remembered (point flat start log).start.stage.conf (previous flat start log) i k

  suits : (log : List Numbered) → Suited (point flat start log)
  suits log = suited_at flat each_apart start log apart has other

  -- what isn't there
  no_item : (log : List Numbered) (i k : ℕ) → at_id (point flat start log).start.stage.conf.items i ≡ None → Holds log i k
  no_item log i k e =
      let p = point flat start log in
      ap (λ ms. memory_at ms k) (no_marks_of p.start (suits log).other p.since i e)
      ∙ sym (ap (λ x. option_map_or (λ item. previous flat start log p.start.stage.conf item (k - 1)) x unmarked) e)

  no_step : (log : List Numbered) (i k : ℕ) (item : Item) → at_id (point flat start log).start.stage.conf.items i ≡ Some item → length item.steps ≤ k - 1 → Holds log i k
  no_step log i k item e l =
      let p = point flat start log in
      let long : length (marks_of p.start p.since i) ≡ length item.steps = long_is p.start (suits log).has p.since i item e in
      past (marks_of p.start p.since i) (k - 1) (let z : length (marks_of p.start p.since i) ≤ k - 1 = omega (arith, long) in z)
      ∙ sym (none_previous flat start p.start.stage.conf item (k - 1) log (own_carried p.start.stage.conf (suits log).apart i item (k - 1) e ∙ beyond_steps (suc (k - 1)) item.steps item.steps (omega arith)))
      ∙ sym (ap (λ x. option_map_or (λ it. previous flat start log p.start.stage.conf it (k - 1)) x unmarked) e)

  -- a step that is there, behind a Value or a Tick
  plain_step : (log : List Numbered) (e : Numbered) → ((i k : ℕ) → Holds log i k) → (i k : ℕ) (item : Item) → at_id (point flat start log).start.stage.conf.items i ≡ Some item → k - 1 < length item.steps
      → memory_of (point flat start log).start (e ∷ (point flat start log).since) i k
      ≡ unwrap_or (marked_for (point flat start log).start.stage.conf (previous flat start log) e (point flat start log).start.stage.conf item (k - 1)) (previous flat start log (point flat start log).start.stage.conf item (k - 1))
  plain_step log e ih i k item there l =
      let p = point flat start log in
      let conf = p.start.stage.conf in
      let found : ℕ → ℕ → StepMemory = remembered conf (previous flat start log) in
      let same : memory_of p.start p.since ≡ found = fun_ext (λ j. fun_ext (λ n. ih j n)) in
      let carried : is_carried conf conf item (k - 1) ≡ true = own_carried conf (suits log).apart i item (k - 1) there ∙ own_steps (suc (k - 1)) item.steps (omega arith) in
      let marked : marked_for conf (previous flat start log) e conf item (k - 1) ≡ marked_at conf found e.number e.entry i (suc (k - 1)) =
      ap (λ b. cond b (option_map_or (λ j. marked_at conf found e.number e.entry j (suc (k - 1))) (old_item conf conf item) None) None) carried
      ∙ ap (λ o. option_map_or (λ j. marked_at conf found e.number e.entry j (suc (k - 1))) o None) (own_item conf (suits log).apart i item there) in
      memory_with p.start (suits log).has p.since e i k
      ∙ ap (λ (f : ℕ → ℕ → StepMemory). unwrap_or (marked_at conf f e.number e.entry i k) (f i k)) same
      ∙ ap₂ (λ o m. unwrap_or o m) (number_same conf found e.number e.entry i k ∙ sym marked) (ap (λ x. option_map_or (λ it. previous flat start log conf it (k - 1)) x unmarked) there)

  -- and behind a Config
  config_step : (log : List Numbered) (new : Conf) → HasApart new → ((i k : ℕ) → Holds log i k) → (i k : ℕ) (item : Item) → at_id new.items i ≡ Some item → k - 1 < length item.steps
      → memory_at (carried_marks (point flat start log).start.stage.conf new (marks_of (point flat start log).start (point flat start log).since) i) k
      ≡ cond (is_carried new new item (k - 1)) (previous flat start log new item (k - 1)) unmarked
  config_step log new apart_new ih i k item there l =
      ap (λ x. memory_at (option_map_or (carried_for old new marks) x []) k) there ∙ go (old_item old new item) refl
      ∙ sym (ap (λ b. cond b (previous flat start log new item (k - 1)) unmarked) (own_carried new apart_new i item (k - 1) there ∙ own_steps (suc (k - 1)) item.steps (omega arith)))
    where
      p : Point
      p = point flat start log

      old : Conf
      old = p.start.stage.conf

      marks : ℕ → List StepMemory
      marks = marks_of p.start p.since

      carried_is : (x : Option ℕ) → old_item old new item ≡ x → is_carried old new item (k - 1) ≡ option_map_or (λ before. same_steps (suc (k - 1)) (steps_of old before) item.steps) x false
      carried_is x e = ap (λ o. option_map_or (λ before. same_steps (suc (k - 1)) (steps_of old before) item.steps) o false) e

      go : (x : Option ℕ) → old_item old new item ≡ x → memory_at (option_map_or (λ before. carried_along (steps_of old before) (marks before) item.steps) x (no_marks item)) k ≡ previous flat start log new item (k - 1)
      go None e = unmarked_at item.steps (k - 1) ∙ sym (none_previous flat start new item (k - 1) log (carried_is None e))
      go (Some j) e =
          let f = found_old old new item j e in
          let steps : steps_of old j ≡ f.before.steps = ap (λ x. option_map_or (λ (it : Item). it.steps) x []) f.there in
          let long : length (marks j) ≡ length (steps_of old j) = long_is p.start (suits log).has p.since j f.before f.there ∙ ap length (sym steps) in
          along_at (steps_of old j) (marks j) item.steps (k - 1) long ∙ by_steps (same_steps (suc (k - 1)) (steps_of old j) item.steps) refl f steps
        where
          by_steps : (b : Bool) → same_steps (suc (k - 1)) (steps_of old j) item.steps ≡ b → (f : Old old new item j) → steps_of old j ≡ f.before.steps
              → cond b (mark_at (marks j) (k - 1)) unmarked ≡ previous flat start log new item (k - 1)
          by_steps true s f steps =
              ih j k ∙ ap (λ x. option_map_or (λ it. previous flat start log old it (k - 1)) x unmarked) f.there
              ∙ same_previous flat start old new f.before item (k - 1) f.alike (ap (λ xs. same_steps (suc (k - 1)) xs item.steps) (sym steps) ∙ s) log
          by_steps false s f steps = sym (none_previous flat start new item (k - 1) log (carried_is (Some j) e ∙ s))

  abbrev Within : List Numbered → Type 0
  Within log = (i k : ℕ) (item : Item) → at_id (point flat start log).start.stage.conf.items i ≡ Some item → k - 1 < length item.steps
      → memory_of (point flat start log).start (point flat start log).since i k ≡ previous flat start log (point flat start log).start.stage.conf item (k - 1)

  whole_step : (log : List Numbered) → Within log → (i k : ℕ) → Holds log i k
  whole_step log within i k = at (at_id (point flat start log).start.stage.conf.items i) refl
    where
      at : (x : Option Item) → at_id (point flat start log).start.stage.conf.items i ≡ x → Holds log i k
      at None e = no_item log i k e
      at (Some item) e = by_place (cases_order (k - 1) (length item.steps))
        where
          by_place : ((k - 1) ≡ length item.steps) ⊎ (((k - 1) < length item.steps) ⊎ (length item.steps < (k - 1))) → Holds log i k
          by_place (inl q) = no_step log i k item e (let z : length item.steps ≤ k - 1 = omega (arith, q) in z)
          by_place (inr (inl l)) =
              within i k item e l ∙ sym (ap (λ x. option_map_or (λ it. previous flat start log (point flat start log).start.stage.conf it (k - 1)) x unmarked) e)
          by_place (inr (inr l)) = no_step log i k item e (let z : length item.steps ≤ k - 1 = omega (arith, l) in z)

  first_within : Within []
  unfolding marks_of
  first_within i k item e l =
      sym
      (ap₂ (λ b o. cond b (option_map_or (λ j. mark_at (start.marks j) (k - 1)) o unmarked) unmarked) (own_carried start.stage.conf apart i item (k - 1) e ∙ own_steps (suc (k - 1)) item.steps (omega arith)) (own_item start.stage.conf apart i item e))

  next_within : (older : List Numbered) (n : Numbered) → ((i k : ℕ) → Holds older i k) → Within (n ∷ older)
  unfolding marks_of
  next_within older n ih i k item e l = by_entry n.entry e
    where
      p : Point
      p = point flat start older

      by_entry : (entry : Entry) → at_id (point_with flat p n entry).start.stage.conf.items i ≡ Some item
          → memory_of (point_with flat p n entry).start (point_with flat p n entry).since i k
          ≡ previous_with flat p.start.stage.conf (previous flat start older) n entry (point_with flat p n entry).start.stage.conf item (k - 1)
      by_entry (Config now text) e = config_step older (flat text) (each_apart text) ih i k item e l
      by_entry (Value now it time value) e = plain_step older n ih i k item e l
      by_entry (Tick now) e = plain_step older n ih i k item e l

  holds : (log : List Numbered) (i k : ℕ) → Holds log i k
  holds [] = whole_step [] first_within
  holds (n ∷ older) = whole_step (n ∷ older) (next_within older n (holds older))

pub previous_in_whole : PreviousInWhole
previous_in_whole flat start log each_apart apart has other i k = holds flat each_apart start apart has other log i k
