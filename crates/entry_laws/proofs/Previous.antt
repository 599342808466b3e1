-- What a step remembers is what the last value that marked it left there.
use Rattle.std.proofs.Common.{◌≡◌, ℕ, zero, suc, ◌+◌, ◌-◌, ◌<◌, ◌≤◌, ◌==◌, Bool, true, false, cond, ◌&&◌, ◌⊎◌, inl, inr, Option, Some, None, List, [], ◌∷◌, length, map, refl, sym, ◌∙◌, ap, ap₂, subst, eqb-true, arith, ℤ}
use mathlib.Core.Path.{fun_ext}
use Rattle.std.specs.Prelude.{filter_map, is_some, nat_le, nat_lt, int_lt, option_map, slice_index_or}
use Rattle.std.specs.List.{cons_option}
use Rattle.std.specs.Option.{option_map_or, unwrap_or}
use Rattle.std.proofs.lemmas.Bool.{cases_order}
use Rattle.zbx_types.specs.Ids.{at_id}
use Rattle.zbx_types.specs.Periods.{seconds_up_to}
use Rattle.zbx_types.specs.Written.{written}
use Rattle.zbx_types.specs.declared.conf.Conf.{Conf}
use Rattle.zbx_types.specs.declared.entries.Entry.{Entry}
use Rattle.zbx_types.specs.declared.entries.Entry.TheVariants.{Config, Value, Tick}
use Rattle.zbx_types.specs.declared.entries.Numbered.{Numbered}
use Rattle.zbx_types.specs.declared.items.Item.{Item}
use Rattle.zbx_types.specs.declared.steps.StepKind.{StepKind}
use Rattle.zbx_types.specs.declared.steps.StepKind.TheVariants.{Regex, Replace, Trim, LTrim, RTrim, JsonPath, Multiplier, SimpleChange, ChangePerSecond, BoolToDecimal, OctalToDecimal}
use Rattle.zbx_types.specs.declared.steps.StepKind.TheVariants.{HexToDecimal, InRange, Matches, NotMatches, JsonError, RegexError, Throttle, ThrottleHeartbeat}
use Rattle.zbx_types.specs.declared.steps.StepSpec.{StepSpec}
use Rattle.prep_steps.specs.Changes.{previous, with_number, rate, changed_number, changed, rate_from, rated_number, rated}
use Rattle.prep_steps.specs.Numbering.{number_of, result_of as outcome_for}
use Rattle.prep_steps.specs.Outcomes.{parameter, marked, unmarked, is_short, too_long, kept}
use Rattle.prep_steps.specs.Steps.{done_of}
use Rattle.prep_steps.specs.Steps as plain
use Rattle.prep_steps.specs.Throttling.{is_repeated, throttled, heartbeat, unchanged, unchanged_within}
use Rattle.prep_steps.specs.declared.memory.StepMemory.{StepMemory}
use Rattle.prep_steps.specs.declared.outcome.Outcome.{Outcome}
use Rattle.prep_steps.specs.declared.outcome.Outcome.TheVariants as outcomes
use Rattle.prep_steps.specs.declared.outcome.StepDone.{StepDone}
use Rattle.preprocess.specs.Cells.{no_marks}
use Rattle.preprocess.specs.Chain.{made_by, step_done, settled, unreached, where_on, marks_of as chain_marks, chain_of}
use Rattle.preprocess.specs.Draft.{visit_at, marks_after}
use Rattle.preprocess.specs.Visits.{Arrival, chained_by, came, result_of, visited, visit_of, visits_of}
use Rattle.preprocess.specs.Ways.{memory_at}
use Rattle.preprocess.specs.declared.chain.Chained.{Chained}
use Rattle.preprocess.specs.declared.visit.Visit.{Visit}
use Rattle.entry_step.specs.History.{visits_at, marks_of, memory_of}
use Rattle.entry_laws.specs.Previous.{passing_mark, marks_by, where_goes_on, mark_in, mark_of, marked_by, marked_at, last_mark, HasMarks, PreviousIs, FreshHasMarks}
use Rattle.entry_step.specs.Start.{Start}

-- One step
module _ (memory : StepMemory) (value : List ℕ) (time : ℕ) where
  abbrev Marks : StepDone → Option StepMemory → Type 0
  Marks done mark = done.memory ≡ unwrap_or mark memory

  change_marks : (o : Option ℤ) → Marks (changed_number memory time o) (option_map (λ z. marked time (written z)) o)
  change_marks None = refl
  change_marks (Some z) = refl

  rate_marks : (o : Option ℤ) → Marks (rated_number memory time o) (cond (is_some (previous memory) && nat_le time memory.time) None (option_map (λ z. marked time (written z)) o))
  rate_marks None = off (is_some (previous memory) && nat_le time memory.time)
    where
      off : (b : Bool) → memory ≡ unwrap_or (cond b None None) memory
      off true = refl
      off false = refl
  rate_marks (Some z) = go (previous memory)
    where
      go : (p : Option ℤ) → Marks (rate_from p memory time z) (cond (is_some p && nat_le time memory.time) None (Some (marked time (written z))))
      go None = refl
      go (Some before) = at (nat_le time memory.time) (int_lt z before)
        where
          at : (late b : Bool) → Marks (cond late (kept memory outcomes.Discard) (cond b (with_number time z outcomes.Discard) (with_number time z (outcome_for (rate before z (time - memory.time)))))) (cond late None (Some (marked time (written z))))
          at true b = refl
          at false true = refl
          at false false = refl

  abbrev over : Bool → Bool → StepDone
  over drops short = cond drops (kept memory outcomes.Discard)
      (cond short (record { outcome = outcomes.Value value; memory = marked time value }) (kept memory (cond short (outcomes.Value value) (outcomes.Fail too_long))))

  drop_marks : (drops : Bool) → Marks (throttled drops memory value time) (passing_mark time value (throttled drops memory value time).outcome)
  drop_marks drops = go drops (is_short value)
    where
      go : (d s : Bool) → Marks (over d s) (passing_mark time value (over d s).outcome)
      go true s = refl
      go false true = refl
      go false false = refl

-- a step remembers what the value marked it with, and else what it did
marks_are : (step : StepSpec) (memory : StepMemory) (value : List ℕ) (time : ℕ) → (step_done step memory value time).memory ≡ unwrap_or (marks_by step.kind step memory value time) memory
unfolding step_done done_of changed rated unchanged unchanged_within
marks_are step memory value time = go step.kind refl
  where
    -- what the kinds that are made elsewhere remember
    same_as : (kind : StepKind) → step.kind ≡ kind → (plain.made_by step.kind (parameter step.params 0) (parameter step.params 1) memory value time).memory ≡ (plain.made_by kind (parameter step.params 0) (parameter step.params 1) memory value time).memory
    same_as kind e = ap (λ x. (plain.made_by x (parameter step.params 0) (parameter step.params 1) memory value time).memory) e

    thrown : (kind : StepKind) → step.kind ≡ kind → (made_by step.kind step memory value time).outcome ≡ (made_by kind step memory value time).outcome
    thrown kind e = ap (λ x. (made_by x step memory value time).outcome) e

    out : (kind : StepKind) → step.kind ≡ kind → (plain.made_by step.kind (parameter step.params 0) (parameter step.params 1) memory value time).outcome ≡ (plain.made_by kind (parameter step.params 0) (parameter step.params 1) memory value time).outcome
    out kind e = ap (λ x. (plain.made_by x (parameter step.params 0) (parameter step.params 1) memory value time).outcome) e

    go : (kind : StepKind) → step.kind ≡ kind → (made_by kind step memory value time).memory ≡ unwrap_or (marks_by kind step memory value time) memory
    go Regex e = same_as Regex e
    go Replace e = same_as Replace e
    go Trim e = same_as Trim e
    go LTrim e = same_as LTrim e
    go RTrim e = same_as RTrim e
    go JsonPath e = refl
    go Multiplier e = same_as Multiplier e
    go SimpleChange e = same_as SimpleChange e ∙ change_marks memory value time (number_of value)
    go ChangePerSecond e = same_as ChangePerSecond e ∙ rate_marks memory value time (number_of value)
    go BoolToDecimal e = same_as BoolToDecimal e
    go OctalToDecimal e = same_as OctalToDecimal e
    go HexToDecimal e = same_as HexToDecimal e
    go InRange e = same_as InRange e
    go Matches e = same_as Matches e
    go NotMatches e = same_as NotMatches e
    go JsonError e = refl
    go RegexError e = same_as RegexError e
    go Throttle e =
        same_as Throttle e ∙ drop_marks memory value time (is_repeated memory value)
        ∙ ap (λ o. unwrap_or (passing_mark time value o) memory) (sym (thrown Throttle e ∙ out Throttle e))
    go ThrottleHeartbeat e =
        same_as ThrottleHeartbeat e
        ∙ drop_marks memory value time (is_repeated memory value && nat_lt time (memory.time + heartbeat (seconds_up_to 31536000 (parameter step.params 0))))
        ∙ ap (λ o. unwrap_or (passing_mark time value o) memory) (sym (thrown ThrottleHeartbeat e ∙ out ThrottleHeartbeat e))

-- The steps of a chain
abbrev pub at_place : List StepMemory → ℕ → StepMemory
at_place marks place = slice_index_or marks place unmarked

unreached_at : (steps : List StepSpec) (first : ℕ) (memory : ℕ → StepMemory) (place : ℕ) → place < length steps → at_place (unreached steps first memory) place ≡ memory (first + place)
unreached_at [] first memory place l = absurd (omega arith)
unreached_at (step ∷ steps) first memory zero l = let e : first ≡ first + zero = omega arith in ap memory e
unreached_at (step ∷ steps) first memory (suc place) l = let e : (first + 1) + place ≡ first + suc place = omega arith in unreached_at steps (first + 1) memory place (omega arith) ∙ ap memory e

unreached_long : (steps : List StepSpec) (first : ℕ) (memory : ℕ → StepMemory) → length (unreached steps first memory) ≡ length steps
unreached_long [] first memory = refl
unreached_long (step ∷ steps) first memory = ap suc (unreached_long steps (first + 1) memory)

module _ (time : ℕ) where
  marks_long : (steps : List StepSpec) (first : ℕ) (memory : ℕ → StepMemory) (value : List ℕ) → length (chain_marks steps first memory value time) ≡ length steps
  unfolding chain_marks
  marks_long [] first memory value = refl
  marks_long (step ∷ steps) first memory value = ap suc (go (settled step first (step_done step (memory first) value time).outcome) (λ v. marks_long steps (first + 1) memory v))
    where
      go : (o : Outcome) → ((v : List ℕ) → length (chain_marks steps (first + 1) memory v time) ≡ length steps) → length (where_on (λ v. chain_marks steps (first + 1) memory v time) (unreached steps (first + 1) memory) o) ≡ length steps
      go (outcomes.Value v) ih = ih v
      go outcomes.Discard ih = unreached_long steps (first + 1) memory
      go (outcomes.Fail why) ih = unreached_long steps (first + 1) memory

  marked_in : (steps : List StepSpec) (first : ℕ) (memory : ℕ → StepMemory) (value : List ℕ) (place : ℕ) → place < length steps
      → at_place (chain_marks steps first memory value time) place ≡ unwrap_or (mark_in steps first memory time place value) (memory (first + place))
  unfolding chain_marks
  marked_in [] first memory value place l = absurd (omega arith)
  marked_in (step ∷ steps) first memory value zero l =
      let e : first ≡ first + zero = omega arith in
      marks_are step (memory first) value time ∙ ap (λ m. unwrap_or (marks_by step.kind step (memory first) value time) (memory m)) e
  marked_in (step ∷ steps) first memory value (suc place) l =
      let m : place < length steps = omega arith in
      let e : (first + 1) + place ≡ first + suc place = omega arith in
      go (settled step first (step_done step (memory first) value time).outcome) (λ v. marked_in steps (first + 1) memory v place m) m
      ∙ ap (λ n. unwrap_or (where_goes_on (λ v. mark_in steps (first + 1) memory time place v) (settled step first (step_done step (memory first) value time).outcome)) (memory n)) e
    where
      go : (o : Outcome) → ((v : List ℕ) → at_place (chain_marks steps (first + 1) memory v time) place ≡ unwrap_or (mark_in steps (first + 1) memory time place v) (memory ((first + 1) + place))) → place < length steps
          → at_place (where_on (λ v. chain_marks steps (first + 1) memory v time) (unreached steps (first + 1) memory) o) place
          ≡ unwrap_or (where_goes_on (λ v. mark_in steps (first + 1) memory time place v) o) (memory ((first + 1) + place))
      go (outcomes.Value v) ih m = ih v
      go outcomes.Discard ih m = unreached_at steps (first + 1) memory place m
      go (outcomes.Fail why) ih m = unreached_at steps (first + 1) memory place m

  none_in : (steps : List StepSpec) (first : ℕ) (memory : ℕ → StepMemory) (value : List ℕ) (place : ℕ) → length steps ≤ place → mark_in steps first memory time place value ≡ None
  none_in [] first memory value place l = refl
  none_in (step ∷ steps) first memory value zero l = absurd (omega arith)
  none_in (step ∷ steps) first memory value (suc place) l = go (settled step first (step_done step (memory first) value time).outcome) (λ v. none_in steps (first + 1) memory v place (omega arith))
    where
      go : (o : Outcome) → ((v : List ℕ) → mark_in steps (first + 1) memory time place v ≡ None) → where_goes_on (λ v. mark_in steps (first + 1) memory time place v) o ≡ None
      go (outcomes.Value v) ih = ih v
      go outcomes.Discard ih = refl
      go (outcomes.Fail why) ih = refl

pub past : (marks : List StepMemory) (place : ℕ) → length marks ≤ place → at_place marks place ≡ unmarked
past [] place l = refl
past (x ∷ xs) zero l = absurd (omega arith)
past (x ∷ xs) (suc place) l = past xs place (omega arith)

-- a row of memories, of as many steps, behind a value that came
chain_is : (steps : List StepSpec) (row : List StepMemory) (value : List ℕ) (time k : ℕ) → length row ≡ length steps
    → memory_at (chain_marks steps 1 (memory_at row) value time) k ≡ unwrap_or (mark_in steps 1 (memory_at row) time (k - 1) value) (memory_at row k)
chain_is steps row value time k same = go (cases_order (k - 1) (length steps))
  where
    within : k - 1 < length steps → memory_at (chain_marks steps 1 (memory_at row) value time) k ≡ unwrap_or (mark_in steps 1 (memory_at row) time (k - 1) value) (memory_at row k)
    within l =
        let e : (1 + (k - 1)) - 1 ≡ k - 1 = omega arith in
        marked_in time steps 1 (memory_at row) value (k - 1) l ∙ ap (λ n. unwrap_or (mark_in steps 1 (memory_at row) time (k - 1) value) (at_place row n)) e

    beyond : length steps ≤ k - 1 → memory_at (chain_marks steps 1 (memory_at row) value time) k ≡ unwrap_or (mark_in steps 1 (memory_at row) time (k - 1) value) (memory_at row k)
    beyond l =
        let a : length (chain_marks steps 1 (memory_at row) value time) ≤ k - 1 = subst (λ n. n ≤ k - 1) (sym (marks_long time steps 1 (memory_at row) value)) l in
        let b : length row ≤ k - 1 = subst (λ n. n ≤ k - 1) (sym same) l in
        past (chain_marks steps 1 (memory_at row) value time) (k - 1) a ∙ sym (past row (k - 1) b)
        ∙ ap (λ o. unwrap_or o (memory_at row k)) (sym (none_in time steps 1 (memory_at row) value (k - 1) l))

    go : ((k - 1) ≡ length steps) ⊎ (((k - 1) < length steps) ⊎ (length steps < (k - 1))) → memory_at (chain_marks steps 1 (memory_at row) value time) k ≡ unwrap_or (mark_in steps 1 (memory_at row) time (k - 1) value) (memory_at row k)
    go (inl e) = beyond (let q : length steps ≤ k - 1 = omega (arith, e) in q)
    go (inr (inl l)) = within l
    go (inr (inr l)) = beyond (let q : length steps ≤ k - 1 = omega (arith, l) in q)

-- The visit of an item
found_is : (f : ℕ → Option Visit) → ((j : ℕ) (v : Visit) → f j ≡ Some v → v.item ≡ j) → (ids : List ℕ) (i : ℕ) (v : Visit) → visit_at (filter_map f ids) i ≡ Some v → f i ≡ Some v
found_is f its [] i v e = absurd (cc)
found_is f its (j ∷ ids) i v e = go (f j) refl (found_is f its ids i v) e
  where
    go : (o : Option Visit) → f j ≡ o → (visit_at (filter_map f ids) i ≡ Some v → f i ≡ Some v) → visit_at (cons_option o (filter_map f ids)) i ≡ Some v → f i ≡ Some v
    go None q ih r = ih r
    go (Some x) q ih r = at (x.item == i) refl r
      where
        at : (b : Bool) → (x.item == i) ≡ b → cond b (Some x) (visit_at (filter_map f ids) i) ≡ Some v → f i ≡ Some v
        at true t s = let same : j ≡ i = sym (its j x q) ∙ eqb-true x.item i t in ap f (sym same) ∙ q ∙ s
        at false t s = ih s

module _ (conf : Conf) (rows : ℕ → List StepMemory) (arrival : Arrival) (i k : ℕ) (long : (item : Item) → at_id conf.items i ≡ Some item → length (rows i) ≡ length item.steps) where
  abbrev memory : ℕ → ℕ → StepMemory
  memory j l = memory_at (rows j) l

  abbrev found : ℕ → Option Visit
  found id = option_map (visit_of arrival.time arrival.number id) (result_of conf memory arrival id)

  found_item : (j : ℕ) (v : Visit) → found j ≡ Some v → v.item ≡ j
  found_item j v e = go (result_of conf memory arrival j) e
    where
      go : (o : Option Chained) → option_map (visit_of arrival.time arrival.number j) o ≡ Some v → v.item ≡ j
      go None q = cc
      go (Some chained) q = let same : visit_of arrival.time arrival.number j chained ≡ v = cc in sym (ap (λ x. x.item) same)

  visit_found : (v : Visit) → visit_at (visits_of conf memory arrival) i ≡ Some v → found i ≡ Some v
  unfolding visits_of
  visit_found v e = found_is found found_item (visited conf (length conf.items - 1) arrival.item) i v e

  -- what a visit leaves
  left_is : (v : Visit) → found i ≡ Some v
      → (memory_at v.marks k ≡ unwrap_or (mark_of (memory i) arrival.time k (at_id conf.items i) (came conf memory arrival (length conf.items) i)) (memory i k))
      × ((item : Item) → at_id conf.items i ≡ Some item → length v.marks ≡ length item.steps)
  unfolding result_of chain_of
  left_is v e = go (at_id conf.items i) refl (came conf memory arrival (length conf.items) i) e
    where
      go : (x : Option Item) → at_id conf.items i ≡ x → (t : Option (List ℕ)) → option_map (visit_of arrival.time arrival.number i) (chained_by (memory i) arrival.time x t) ≡ Some v
          → (memory_at v.marks k ≡ unwrap_or (mark_of (memory i) arrival.time k x t) (memory i k)) × ((item : Item) → at_id conf.items i ≡ Some item → length v.marks ≡ length item.steps)
      go None q t r = absurd (let z : None ≡ Some v = r in cc)
      go (Some item) q None r = absurd (let z : None ≡ Some v = r in cc)
      go (Some item) q (Some value) r =
          let chained : Chained = chain_of item (memory i) value arrival.time in
          let same : visit_of arrival.time arrival.number i chained ≡ v = cc in
          let marks : chain_marks item.steps 1 (memory i) value arrival.time ≡ v.marks = ap (λ x. x.marks) same in (
            ap (λ m. memory_at m k) (sym marks) ∙ chain_is item.steps (rows i) value arrival.time k (long item q),
            λ other p. (let one : Some item ≡ Some other = sym q ∙ p in let is : item ≡ other = cc in ap length (sym marks) ∙ marks_long arrival.time item.steps 1 (memory i) value ∙ ap (λ x. length x.steps) is),
          )

  value_is : (memory_at (marks_after (visit_at (visits_of conf memory arrival) i) (rows i)) k ≡ unwrap_or (marked_by conf memory arrival i k) (memory i k))
      × ((item : Item) → at_id conf.items i ≡ Some item → length (marks_after (visit_at (visits_of conf memory arrival) i) (rows i)) ≡ length item.steps)
  value_is = go (visit_at (visits_of conf memory arrival) i) refl
    where
      go : (o : Option Visit) → visit_at (visits_of conf memory arrival) i ≡ o
          → (memory_at (marks_after o (rows i)) k ≡ unwrap_or (cond (is_some o) (mark_of (memory i) arrival.time k (at_id conf.items i) (came conf memory arrival (length conf.items) i)) None) (memory i k))
          × ((item : Item) → at_id conf.items i ≡ Some item → length (marks_after o (rows i)) ≡ length item.steps)
      go None e = (refl, long)
      go (Some v) e = left_is v (visit_found v e)

-- Behind a log
module _ (start : Start) (has : HasMarks start) where
  abbrev pub Long : List Numbered → Type 0
  Long log = (i : ℕ) (item : Item) → at_id start.stage.conf.items i ≡ Some item → length (marks_of start log i) ≡ length item.steps

  entry_is : (log : List Numbered) → Long log → (e : Numbered) (entry : Entry) (i k : ℕ)
      → (memory_at (marks_after (visit_at (visits_at start.stage.conf (memory_of start log) e.number entry) i) (marks_of start log i)) k ≡ unwrap_or (marked_at start.stage.conf (memory_of start log) e.number entry i k) (memory_of start log i k))
      × ((item : Item) → at_id start.stage.conf.items i ≡ Some item → length (marks_after (visit_at (visits_at start.stage.conf (memory_of start log) e.number entry) i) (marks_of start log i)) ≡ length item.steps)
  entry_is log long e (Config now text) i k = (refl, long i)
  entry_is log long e (Tick now) i k = (refl, long i)
  entry_is log long e (Value now item time value) i k =
      value_is start.stage.conf (marks_of start log) (record { item = item; time = time; number = e.number; value = value }) i k (long i)

  pub long_is : (log : List Numbered) → Long log
  unfolding marks_of
  long_is [] i item q = has i item q
  long_is (e ∷ log) i item q = (entry_is log (long_is log) e e.entry i 1).1 item q

  memory_is : (log : List Numbered) (i k : ℕ) → memory_of start log i k ≡ last_mark start log i k
  unfolding marks_of last_mark
  memory_is [] i k = refl
  memory_is (e ∷ log) i k =
      let same : memory_of start log ≡ last_mark start log = fun_ext (λ j. fun_ext (λ l. memory_is log j l)) in
      (entry_is log (long_is log) e e.entry i k).0
      ∙ ap₂ (λ f m. unwrap_or (marked_at start.stage.conf f e.number e.entry i k) m) same (memory_is log i k)

pub previous_is : PreviousIs
previous_is start log has i k = memory_is start has log i k

pub fresh_has_marks : FreshHasMarks
fresh_has_marks stage i item q = ap (λ o. length (option_map_or no_marks o [])) q ∙ same item.steps
  where
    same : (steps : List StepSpec) → length (map (λ step. unmarked) steps) ≡ length steps
    same [] = refl
    same (step ∷ steps) = ap suc (same steps)
