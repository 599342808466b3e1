-- What steps remember fits them.
use Rattle.std.proofs.Common.{◌≡◌, ◌≤◌, ◌==◌, ◌&&◌, ◌||◌, ℕ, zero, suc, ◌+◌, ◌-◌, Bool, true, false, cond, Option, Some, None, List, [], ◌∷◌, map, length, option_map, option_and_then, slice_get, refl, sym, ◌∙◌, ap, subst, eqb-true, arith, ℤ}
use Rattle.std.specs.Prelude.{is_some, slice_index_or}
use Rattle.std.specs.Str.{bytes_eq}
use Rattle.std.specs.Cmp.Lexicographic.{pointwise}
use Rattle.zbx_types.specs.Ids.{at_id}
use Rattle.zbx_types.specs.Entries.{moment_of}
use Rattle.zbx_types.specs.Written.{written}
use Rattle.zbx_types.specs.declared.conf.Conf.{Conf}
use Rattle.zbx_types.specs.declared.entries.Entry.{Entry}
use Rattle.zbx_types.specs.declared.entries.Entry.TheVariants.{Config, Value, Tick}
use Rattle.zbx_types.specs.declared.items.Item.{Item}
use Rattle.zbx_types.specs.declared.steps.StepKind.{StepKind}
use Rattle.zbx_types.specs.declared.steps.StepKind.TheVariants.{Regex, Replace, Trim, LTrim, RTrim, JsonPath, Multiplier, SimpleChange, ChangePerSecond, BoolToDecimal, OctalToDecimal}
use Rattle.zbx_types.specs.declared.steps.StepKind.TheVariants.{HexToDecimal, InRange, Matches, NotMatches, JsonError, RegexError, Throttle, ThrottleHeartbeat}
use Rattle.zbx_types.specs.declared.steps.StepSpec.{StepSpec}
use Rattle.prep_steps.specs.Numbering.{number_of}
use Rattle.prep_steps.specs.Outcomes.{marked, unmarked}
use Rattle.prep_steps.specs.declared.memory.StepMemory.{StepMemory}
use Rattle.prep_steps.specs.declared.outcome.Outcome.{Outcome}
use Rattle.prep_steps.specs.declared.outcome.Outcome.TheVariants as outcomes
use Rattle.preprocess.specs.Carry.{kind_number, fail_number, same_step, carried_along}
use Rattle.preprocess.specs.Chain.{step_done, settled}
use Rattle.preprocess.specs.Draft.{visit_at}
use Rattle.preprocess.specs.Visits.{Arrival, came, visits_of}
use Rattle.entry_step.specs.Log.{IsFitting}
use Rattle.entry_laws.specs.Previous.{number_mark, is_passed_over, passing_mark, marks_by, where_goes_on, mark_in, mark_of, marked_at}
use Rattle.base_laws.specs.Bases.{told_step}
use Rattle.base_laws.specs.FitsBase.{is_change, FitsStep}
use Rattle.base_laws.proofs.Typed.{number_small}

-- later on
pub fits_later : (now later : ℕ) (step : StepSpec) (m : StepMemory) → now ≤ later → FitsStep now step (told_step m) → FitsStep later step (told_step m)
fits_later now later step m l f = record { number = f.number; none = f.none; moment = let k = f.moment in omega arith }

-- nothing is remembered
pub fits_unmarked : (now : ℕ) (step : StepSpec) → FitsStep now step (told_step unmarked)
fits_unmarked now step = record { number = λ q there. absurd (cc); none = λ q. (refl, refl); moment = omega arith }

-- a number marks a step, or a value that isn't a number's change
fits_number : (now : ℕ) (step : StepSpec) (time : ℕ) (value : List ℕ) (m : StepMemory) → time ≤ now → number_mark time value ≡ Some m → FitsStep now step (told_step m)
fits_number now step time value m l e = go (number_of value) refl e
  where
    go : (o : Option ℤ) → number_of value ≡ o → option_map (λ z. marked time (written z)) o ≡ Some m → FitsStep now step (told_step m)
    go None q r = absurd (cc)
    go (Some z) q r =
        let same : marked time (written z) ≡ m = cc in
        subst (λ (x : StepMemory). FitsStep now step (told_step x)) same
        (record { number = λ c there. (z, number_small value z q, refl); none = λ gone. absurd (cc); moment = l })

fits_passing : (now : ℕ) (step : StepSpec) (time : ℕ) (value : List ℕ) (o : Outcome) (m : StepMemory) → is_change step.kind ≡ false → time ≤ now → passing_mark time value o ≡ Some m → FitsStep now step (told_step m)
fits_passing now step time value (outcomes.Value passed) m off l e =
    let same : marked time value ≡ m = cc in
    subst (λ (x : StepMemory). FitsStep now step (told_step x)) same
    (record { number = λ c there. absurd (let f : true ≡ false = sym c ∙ off in cc); none = λ gone. absurd (cc); moment = l })
fits_passing now step time value outcomes.Discard m off l e = absurd (cc)
fits_passing now step time value (outcomes.Fail why) m off l e = absurd (cc)

fits_marks : (now : ℕ) (step : StepSpec) (memory : StepMemory) (value : List ℕ) (time : ℕ) (m : StepMemory) → time ≤ now → marks_by step.kind step memory value time ≡ Some m → FitsStep now step (told_step m)
fits_marks now step memory value time m l e = go step.kind refl e
  where
    rated : (b : Bool) → cond b None (number_mark time value) ≡ Some m → FitsStep now step (told_step m)
    rated true q = absurd (cc)
    rated false q = fits_number now step time value m l q

    go : (kind : StepKind) → step.kind ≡ kind → marks_by kind step memory value time ≡ Some m → FitsStep now step (told_step m)
    go SimpleChange k q = fits_number now step time value m l q
    go ChangePerSecond k q = rated (is_passed_over memory time) q
    go Throttle k q = fits_passing now step time value (step_done step memory value time).outcome m (ap is_change k) l q
    go ThrottleHeartbeat k q = fits_passing now step time value (step_done step memory value time).outcome m (ap is_change k) l q
    go Regex k q = absurd (cc)
    go Replace k q = absurd (cc)
    go Trim k q = absurd (cc)
    go LTrim k q = absurd (cc)
    go RTrim k q = absurd (cc)
    go JsonPath k q = absurd (cc)
    go Multiplier k q = absurd (cc)
    go BoolToDecimal k q = absurd (cc)
    go OctalToDecimal k q = absurd (cc)
    go HexToDecimal k q = absurd (cc)
    go InRange k q = absurd (cc)
    go Matches k q = absurd (cc)
    go NotMatches k q = absurd (cc)
    go JsonError k q = absurd (cc)
    go RegexError k q = absurd (cc)

fits_in : (now : ℕ) (steps : List StepSpec) (first : ℕ) (memory : ℕ → StepMemory) (time place : ℕ) (value : List ℕ) (step : StepSpec) (m : StepMemory) → time ≤ now → slice_get steps place ≡ Some step → mark_in steps first memory time place value ≡ Some m → FitsStep now step (told_step m)
fits_in now [] first memory time place value step m l at e = absurd (cc)
fits_in now (x ∷ xs) first memory time zero value step m l at e =
    let same : x ≡ step = cc in
    subst (λ (s : StepSpec). FitsStep now s (told_step m)) same (fits_marks now x (memory first) value time m l e)
fits_in now (x ∷ xs) first memory time (suc place) value step m l at e =
    go (settled x first (step_done x (memory first) value time).outcome) e (λ v q. fits_in now xs (first + 1) memory time place v step m l at q)
  where
    go : (o : Outcome) → where_goes_on (λ v. mark_in xs (first + 1) memory time place v) o ≡ Some m → ((v : List ℕ) → mark_in xs (first + 1) memory time place v ≡ Some m → FitsStep now step (told_step m)) → FitsStep now step (told_step m)
    go (outcomes.Value v) q ih = ih v q
    go outcomes.Discard q ih = absurd (cc)
    go (outcomes.Fail why) q ih = absurd (cc)

-- what an entry leaves at a step fits it
pub fits_marked : (conf : Conf) (memory : ℕ → ℕ → StepMemory) (number : ℕ) (entry : Entry) (id : ℕ) (item : Item) (place : ℕ) (step : StepSpec) (m : StepMemory) → at_id conf.items id ≡ Some item → slice_get item.steps place ≡ Some step → IsFitting conf entry
    → marked_at conf memory number entry id (place + 1) ≡ Some m → FitsStep (moment_of entry) step (told_step m)
fits_marked conf memory number (Config now text) id item place step m there at fits e = absurd (cc)
fits_marked conf memory number (Tick now) id item place step m there at fits e = absurd (cc)
fits_marked conf memory number (Value now i time value) id item place step m there at fits e =
    by_visit (is_some (visit_at (visits_of conf memory arrival) id)) e
  where
    arrival : Arrival
    arrival = record { item = i; time = time; number = number; value = value }

    back : (place + 1) - 1 ≡ place
    back = omega arith

    by_came : (o : Option (List ℕ)) → option_and_then (λ v. mark_in item.steps 1 (memory id) time ((place + 1) - 1) v) o ≡ Some m → FitsStep now step (told_step m)
    by_came None q = absurd (cc)
    by_came (Some v) q = fits_in now item.steps 1 (memory id) time place v step m fits.1 at (ap (λ p. mark_in item.steps 1 (memory id) time p v) (sym back) ∙ q)

    by_visit : (b : Bool) → cond b (mark_of (memory id) time (place + 1) (at_id conf.items id) (came conf memory arrival (length conf.items) id)) None ≡ Some m → FitsStep now step (told_step m)
    by_visit false q = absurd (cc)
    by_visit true q =
        by_came (came conf memory arrival (length conf.items) id)
        (ap (λ x. mark_of (memory id) time (place + 1) x (came conf memory arrival (length conf.items) id)) (sym there) ∙ q)

-- A step that goes on is on a change where the old one is
change_is : (kind : StepKind) → is_change kind ≡ ((kind_number kind == 7) || (kind_number kind == 8))
change_is Regex = refl
change_is Replace = refl
change_is Trim = refl
change_is LTrim = refl
change_is RTrim = refl
change_is JsonPath = refl
change_is Multiplier = refl
change_is SimpleChange = refl
change_is ChangePerSecond = refl
change_is BoolToDecimal = refl
change_is OctalToDecimal = refl
change_is HexToDecimal = refl
change_is InRange = refl
change_is Matches = refl
change_is NotMatches = refl
change_is JsonError = refl
change_is RegexError = refl
change_is Throttle = refl
change_is ThrottleHeartbeat = refl

first_of : (a b c d : Bool) → (a && b && c && d) ≡ true → a ≡ true
first_of true b c d q = refl
first_of false b c d q = cc

fits_same : (now : ℕ) (old step : StepSpec) (m : StepMemory) → same_step old step ≡ true → FitsStep now old (told_step m) → FitsStep now step (told_step m)
fits_same now old step m same f =
    let kinds : kind_number old.kind ≡ kind_number step.kind = eqb-true (kind_number old.kind) (kind_number step.kind) (first_of (kind_number old.kind == kind_number step.kind) (pointwise bytes_eq old.params step.params) (fail_number old.on_fail == fail_number step.on_fail) (bytes_eq old.text step.text) same) in
    let change : is_change step.kind ≡ is_change old.kind = change_is step.kind ∙ ap (λ n. (n == 7) || (n == 8)) (sym kinds) ∙ sym (change_is old.kind) in
    record { number = λ c there. f.number (sym change ∙ c) there; none = f.none; moment = f.moment }

-- and remembers what fits it
pub none_fit : (now : ℕ) (steps : List StepSpec) (place : ℕ) (step : StepSpec) → slice_get steps place ≡ Some step → FitsStep now step (told_step (slice_index_or (map (λ s. unmarked) steps) place unmarked))
none_fit now [] place step at = absurd (cc)
none_fit now (x ∷ xs) zero step at = fits_unmarked now step
none_fit now (x ∷ xs) (suc place) step at = none_fit now xs place step at

pub fits_carried : (now : ℕ) (olds : List StepSpec) (marks : List StepMemory) (steps : List StepSpec) (place : ℕ) (step : StepSpec)
    → ((k : ℕ) (old : StepSpec) → slice_get olds k ≡ Some old → FitsStep now old (told_step (slice_index_or marks k unmarked)))
    → slice_get steps place ≡ Some step → FitsStep now step (told_step (slice_index_or (carried_along olds marks steps) place unmarked))
fits_carried now olds marks [] place step f at = absurd (cc)
fits_carried now [] marks (x ∷ xs) place step f at = none_fit now (x ∷ xs) place step at
fits_carried now (o ∷ olds) [] (x ∷ xs) place step f at = none_fit now (x ∷ xs) place step at
fits_carried now (o ∷ olds) (m ∷ marks) (x ∷ xs) place step f at = go (same_step o x) refl place at (λ k q. fits_carried now olds marks xs k step (λ j old r. f (suc j) old r) q)
  where
    go : (b : Bool) → same_step o x ≡ b → (place : ℕ) → slice_get (x ∷ xs) place ≡ Some step → ((k : ℕ) → slice_get xs k ≡ Some step → FitsStep now step (told_step (slice_index_or (carried_along olds marks xs) k unmarked)))
        → FitsStep now step (told_step (slice_index_or (cond b (m ∷ carried_along olds marks xs) (map (λ s. unmarked) (x ∷ xs))) place unmarked))
    go true q zero r ih =
        let same : x ≡ step = cc in
        subst (λ (s : StepSpec). FitsStep now s (told_step m)) same (fits_same now o x m q (f zero o refl))
    go true q (suc k) r ih = ih k r
    go false q k r ih = none_fit now (x ∷ xs) k step r

pub none_long : (steps : List StepSpec) → length (map (λ s. unmarked) steps) ≡ length steps
none_long [] = refl
none_long (step ∷ steps) = ap suc (none_long steps)

pub carried_long : (olds : List StepSpec) (marks : List StepMemory) (steps : List StepSpec) → length (carried_along olds marks steps) ≡ length steps
carried_long olds marks [] = refl
carried_long [] marks (x ∷ xs) = ap suc (none_long xs)
carried_long (o ∷ olds) [] (x ∷ xs) = ap suc (none_long xs)
carried_long (o ∷ olds) (m ∷ marks) (x ∷ xs) = go (same_step o x) (carried_long olds marks xs)
  where
    go : (b : Bool) → length (carried_along olds marks xs) ≡ length xs → length (cond b (m ∷ carried_along olds marks xs) (map (λ s. unmarked) (x ∷ xs))) ≡ suc (length xs)
    go true ih = ap suc ih
    go false ih = ap suc (none_long xs)
