-- The bases that logs leave fit.
use Rattle.std.proofs.Common.{◌≡◌, ◌≤◌, ℕ, zero, suc, ◌+◌, Bool, true, false, cond, not, ◌&&◌, inl, inr, Option, Some, None, List, [], ◌∷◌, length, map, flat_map, reverse, option_map, slice_get, refl, sym, ◌∙◌, ap, ap₂, subst, le_refl, arith}
use Rattle.std.specs.Option.{unwrap_or}
use Rattle.std.proofs.lemmas.List.{reverse-append}
use Rattle.zbx_types.specs.Ids.{at_id, ids_from}
use Rattle.zbx_types.specs.Records.{event_of}
use Rattle.zbx_types.specs.declared.base.Base.{Base}
use Rattle.zbx_types.specs.declared.base.BaseItem.{BaseItem}
use Rattle.zbx_types.specs.declared.base.BaseProblem.{BaseProblem}
use Rattle.zbx_types.specs.declared.base.BaseStep.{BaseStep}
use Rattle.zbx_types.specs.declared.base.BaseValue.{BaseValue}
use Rattle.zbx_types.specs.declared.base.Ran.{Ran}
use Rattle.zbx_types.specs.declared.conf.Conf.{Conf}
use Rattle.zbx_types.specs.declared.entries.Entry.{Entry}
use Rattle.zbx_types.specs.declared.entries.Entry.TheVariants.{Config, Value, Tick}
use Rattle.zbx_types.specs.declared.entries.EventId.{EventId}
use Rattle.zbx_types.specs.declared.entries.Held.{Held}
use Rattle.zbx_types.specs.declared.entries.Held.TheVariants as held
use Rattle.zbx_types.specs.declared.entries.Numbered.{Numbered}
use Rattle.zbx_types.specs.declared.entries.Rec.{Rec}
use Rattle.zbx_types.specs.declared.entries.Rec.TheVariants.{Failure, Problem, Recovery, Step, Message}
use Rattle.zbx_types.specs.declared.entries.Stored.{Stored}
use Rattle.zbx_types.specs.declared.items.Item.{Item}
use Rattle.zbx_types.specs.declared.items.ValueType.{ValueType}
use Rattle.zbx_types.specs.declared.items.ValueType.TheVariants as type
use Rattle.zbx_types.specs.declared.steps.StepSpec.{StepSpec}
use Rattle.prep_steps.specs.declared.memory.StepMemory.{StepMemory}
use Rattle.event_text.specs.Titles.{held_text}
use Rattle.value_cache.specs.Cells.{trim}
use Rattle.value_cache.specs.Histories.{IsOrdered}
use Rattle.value_cache.specs.Keeps.{keep_of}
use Rattle.value_cache.proofs.Pruning.{ordered_trim, trim_trim}
use Rattle.trigger_state.specs.Problems.{event_in, opens, recovers, is_step_of, with_step, steps_from, opened, open_of}
use Rattle.trigger_state.specs.Stages.{Stage, id_named}
use Rattle.trigger_state.specs.declared.problems.Open.{Open}
use Rattle.entry_step.specs.Due.{by_making}
use Rattle.entry_step.specs.Each.{Each, In, EachPair}
use Rattle.entry_laws.specs.InForce.{left_by}
use Rattle.entry_step.specs.Log.{IsRising}
use Rattle.entry_step.specs.Making.{is_problem}
use Rattle.entry_step.specs.Named.{AreDistinct}
use Rattle.entry_step.specs.Represents.{IsTagged}
use Rattle.entry_step.specs.Start.{Start}
use Rattle.entry_step.specs.Whole.{IsTold, AreTold, FitsStart, FitsWhole, HasDistinct, point, whole_replay}
use Rattle.entry_laws.specs.Remembered.{mark_at}
use Rattle.entry_step.proofs.Finding.{named_is}
use Rattle.entry_step.proofs.Members.{each_append, each_at, each_from, each_map, each_sub}
use Rattle.entry_step.proofs.Phases.{none_same}
use Rattle.entry_laws.proofs.Runs.{making_each}
use Rattle.std.specs.List.{list_any}
use Rattle.base_laws.specs.Bases.{told_value, read_value, told_step, read_step, told_ran, read_ran, told_problem, read_problem, read_history, read_marks, told_start, Beside, beside_with, told_item, base_at}
use Rattle.base_laws.specs.Dated.{IsDatedBy, IsDated, BaseFits, CheckpointFits}
use Rattle.base_laws.specs.FitsBase.{IsTextOf, FitsStep, FitsItem, IsProblemBy, trigger_by_names, FitsProblem, FitsBase, most_counted}
use Rattle.base_laws.specs.Sound.{IsOfType, IsSound}
use Rattle.base_laws.specs.WholeBases.{IsRegular}
use Rattle.base_laws.proofs.Again.{at_ids, history_again, each_trim, each_reverse}
use Rattle.base_laws.proofs.Dated.{AreOther, pairs_both, pairs_trim, whole_is_dated}
use Rattle.base_laws.proofs.Fitting.{all_have, fits_is_sound, fits_is_start}
use Rattle.base_laws.proofs.Making.{pairs_map}
use Rattle.base_laws.proofs.Retold.{IsOwn, IsOpened, all_opened, homes_kept}
use Rattle.base_laws.proofs.Steps.{with_each}
use Rattle.base_laws.proofs.Told.{open_upto, runs_in_order, all_follow}
use Rattle.base_laws.proofs.WholeBases.{regular_at, told_at, whole_is_sound}

-- Values of different entries, turned
pairs_turned : (xs : List Stored) → EachPair AreOther xs → EachPair AreOther (reverse xs)
pairs_turned [] e = tt
pairs_turned (x ∷ xs) e =
    subst (EachPair AreOther) (sym (reverse-append (x ∷ []) xs))
    (pairs_both (reverse xs) (x ∷ []) (pairs_turned xs e.1) (tt, tt) apart)
  where
    from_reverse : (y : Stored) → In y (reverse xs) → In y xs
    from_reverse y i = each_at (λ z. In z xs) (reverse xs) (each_reverse (λ z. In z xs) xs (each_from (λ z. In z xs) xs (λ z j. j))) y i

    apart : (y z : Stored) → In y (reverse xs) → In z (x ∷ []) → AreOther y z
    apart y z i (inl q) = λ n. each_at (AreOther x) xs e.0 y (from_reverse y i) (ap (λ (s : Stored). s.number) (sym q) ∙ sym n)
    apart y z i (inr j) = absurd j

-- The steps that are kept of open problems
steps_dated : (m : ℕ) (e : EventId) (kept rs : List Rec) → Each (IsDatedBy m) kept → Each (IsDatedBy m) rs → Each (IsDatedBy m) (steps_from e kept rs)
steps_dated m e kept [] a h = a
steps_dated m e kept (r ∷ rs) a h = go (is_step_of e r) (λ more p. steps_dated m e more rs p h.1)
  where
    go : (b : Bool) → ((more : List Rec) → Each (IsDatedBy m) more → Each (IsDatedBy m) (steps_from e more rs)) → Each (IsDatedBy m) (steps_from e (cond b (with_step kept r) kept) rs)
    go true ih = ih (with_step kept r) (with_each (IsDatedBy m) kept r a h.0)
    go false ih = ih kept a

all_steps : (m : ℕ) (stage : Stage) (rs : List Rec) (id : ℕ) → Each (IsDatedBy m) rs → Each (λ o. Each (IsDatedBy m) o.steps) (open_of stage rs id)
all_steps m stage [] id h = tt
all_steps m stage (r ∷ rs) id h = go (opens stage id r) (not (list_any (recovers (event_of r)) rs)) (all_steps m stage rs id h.1)
  where
    go : (a b : Bool) → Each (λ o. Each (IsDatedBy m) o.steps) (open_of stage rs id) → Each (λ o. Each (IsDatedBy m) o.steps) (cond (a && b) (opened stage r rs ∷ open_of stage rs id) (open_of stage rs id))
    go true true ih = (steps_dated m (event_of r) [] rs tt h.1, ih)
    go true false ih = ih
    go false b ih = ih

ran_dated : (m : ℕ) (e : EventId) (steps : List Rec) → Each (IsOwn e) steps → Each (IsDatedBy m) steps → Each (λ (r : Ran). (1 ≤ r.step) × (r.now ≤ m)) (map told_ran steps)
ran_dated m e [] own d = tt
ran_dated m e (r ∷ rs) own d = (one r own.0 d.0, ran_dated m e rs own.1 d.1)
  where
    one : (x : Rec) → IsOwn e x → IsDatedBy m x → (1 ≤ (told_ran x).step) × ((told_ran x).now ≤ m)
    one (Step event action step now) o k = k
    one (Failure number host key why) o k = absurd o
    one (Problem event now severity suppressed host trigger name tags) o k = absurd o
    one (Recovery event by now cause) o k = absurd o
    one (Message event action step recipient subject body) o k = absurd o

problem_by : (m : ℕ) (r : Rec) → is_problem r ≡ true → IsDatedBy m r → IsProblemBy m r
problem_by m (Problem event now severity suppressed host trigger name tags) q d = d
problem_by m (Failure number host key why) q d = absurd (cc)
problem_by m (Recovery event by now cause) q d = absurd (cc)
problem_by m (Step event action step now) q d = absurd (cc)
problem_by m (Message event action step recipient subject body) q d = absurd (cc)

text_of : (t : ValueType) (h : Held) → IsOfType t h → IsTextOf t (held_text h)
text_of type.Number (held.Number z) small = (z, small, refl)
text_of type.Number (held.Words text) is = absurd is
text_of type.Words (held.Number z) is = absurd is
text_of type.Words (held.Words text) is = tt

map_long : {A B : Type 0} (f : A → B) (xs : List A) → length (map f xs) ≡ length xs
map_long f [] = refl
map_long f (x ∷ xs) = ap suc (map_long f xs)

ids_long : {A : Type 0} (from : ℕ) (xs : List A) → length (ids_from from xs) ≡ length xs
ids_long from [] = refl
ids_long from (x ∷ xs) = ap suc (ids_long (from + 1) xs)

told_get : (marks : List StepMemory) (place : ℕ) (memory : BaseStep) → slice_get (map told_step marks) place ≡ Some memory → told_step (mark_at marks place) ≡ memory
told_get [] place memory q = absurd (cc)
told_get (m ∷ ms) zero memory q = let same : told_step m ≡ memory = cc in same
told_get (m ∷ ms) (suc k) memory q = told_get ms k memory q

-- A base of what is sound and dated
module _ (beside : Beside) (left : Start) (sound : IsSound left) (dated : IsDated left beside.tick) (distinct : AreDistinct left.stage.conf) (told : AreTold left.stage left.number left.records) where
  abbrev conf : Conf
  conf = left.stage.conf

  abbrev Fits : Open → Type 0
  Fits o = FitsProblem conf left.number left.moment (told_problem o)

  one_fits : (id : ℕ) (o : Open) → IsOpened o → (event_in o).number ≤ left.number → IsDatedBy left.moment o.problem → Each (IsDatedBy left.moment) o.steps → IsTold conf left.number id o.problem → Fits o
  one_fits id o is upto by steps t =
      let at : trigger_by_names conf o.problem ≡ id = ap (λ k. unwrap_or k 0) (ap₂ (id_named conf) t.host t.name ∙ named_is conf distinct id t.trigger t.there) in
      record {
        problem = problem_by left.moment o.problem is.problem by;
        upto = upto;
        actions = runs_in_order beside left sound left.stage.origins sound.good.origins (homes_kept left.stage left.records) (λ v w i j h. h) o.steps is.ordered;
        steps = ran_dated left.moment (event_in o) o.steps is.own steps;
        trigger = subst (λ k. IsTagged conf k o.problem) (sym at) (t.trigger, t.there, t.tags);
      }

  all_fit : (id : ℕ) (os : List Open) → Each IsOpened os → Each (λ o. (event_in o).number ≤ left.number) os → Each (λ o. IsDatedBy left.moment o.problem) os → Each (λ o. Each (IsDatedBy left.moment) o.steps) os → Each (λ o. IsTold conf left.number id o.problem) os → Each Fits os
  all_fit id [] a b c d t = tt
  all_fit id (o ∷ os) a b c d t = (one_fits id o a.0 b.0 c.0 d.0 t.0, all_fit id os a.1 b.1 c.1 d.1 t.1)

  problems_fit : Each (FitsProblem conf left.number left.moment) (map told_problem (by_making left.stage (open_of left.stage left.records)))
  problems_fit =
      each_map (FitsProblem conf left.number left.moment) told_problem (by_making left.stage (open_of left.stage left.records))
      (making_each Fits left.stage (open_of left.stage left.records)
      (λ id. all_fit id (open_of left.stage left.records id) (all_opened left.stage left.records id) (open_upto left.stage left.number left.records sound.steps.upto id)
      (all_have (IsDatedBy left.moment) left.stage left.records id (each_sub (IsDatedBy left.moment) (λ r. opens left.stage id r ≡ true → IsDatedBy left.moment r) left.records (λ r d q. d) dated.records))
      (all_steps left.moment left.stage left.records id dated.records) (told id)))

  item_fits : (id : ℕ) (item : Item) → at_id conf.items id ≡ Some item → FitsItem (keep_of conf id) left.number left.moment item (told_item left id)
  item_fits id item there =
      let cut : List Stored = trim (keep_of conf id) left.moment (left.histories id) in
      let typed = each_trim (λ s. IsOfType item.value_type s.value) (keep_of conf id) left.moment (left.histories id) (sound.types id item there) in
      let again : read_history (Some item) (Some (told_item left id)) ≡ cut = history_again item.value_type cut typed in
      record {
        texts = each_map (λ v. IsTextOf item.value_type v.value) told_value (reverse cut) (each_sub (λ (s : Stored). IsOfType item.value_type s.value) (λ (s : Stored). IsTextOf item.value_type (held_text s.value)) (reverse cut) (λ s k. text_of item.value_type s.value k) (each_reverse (λ (s : Stored). IsOfType item.value_type s.value) cut typed));
        ordered = subst IsOrdered (sym again) (ordered_trim (keep_of conf id) left.moment (left.histories id) (sound.ordered id));
        numbers = pairs_map (λ (v w : BaseValue). v.number ≡ w.number → ⊥) told_value (reverse cut) (pairs_turned cut (pairs_trim (keep_of conf id) left.moment (left.histories id) (dated.numbers id)));
        upto = each_map (λ (v : BaseValue). (v.number ≤ left.number) × (v.time ≤ left.moment)) told_value (reverse cut) (each_reverse (λ (s : Stored). (s.number ≤ left.number) × (s.time ≤ left.moment)) cut (each_trim (λ (s : Stored). (s.number ≤ left.number) × (s.time ≤ left.moment)) (keep_of conf id) left.moment (left.histories id) (dated.values id)));
        trimmed = ap (trim (keep_of conf id) left.moment) again ∙ trim_trim (keep_of conf id) left.moment left.moment (le_refl left.moment) (left.histories id) (sound.ordered id) ∙ sym again;
        steps = map_long told_step (left.marks id) ∙ dated.marks id item there;
        memories = λ place step memory at kept. subst (FitsStep left.moment step) (told_get (left.marks id) place memory kept) (dated.memories id item place step there at);
      }

  pub left_fits : left.number ≤ most_counted → beside.lines ≤ most_counted → FitsBase conf (base_at beside left)
  unfolding base_at
  left_fits n l = record {
    number = n;
    lines = l;
    ticks = dated.ticks;
    rows = map_long (told_item left) (ids_from 1 conf.items) ∙ ids_long 1 conf.items;
    items = λ id item kept there at. (let q : Some (told_item left id) ≡ Some kept = sym (at_ids (told_item left) conf.items id ∙ ap (option_map (λ (i : Item). told_item left id)) there) ∙ at in
        let same : told_item left id ≡ kept = cc in subst (FitsItem (keep_of conf id) left.number left.moment item) same (item_fits id item there));
    problems = problems_fit;
    order = all_follow beside left sound left.stage.origins sound.good.origins (homes_kept left.stage left.records) (λ v w i j h. h);
  }

pub base_fits : BaseFits
unfolding base_at
base_fits flat beside start log whole suits severe severe_first dated n l =
    let at : Beside = beside_with beside log (whole_replay flat start log) in
    left_fits at (left_by (point flat start log)) (whole_is_sound flat start log whole) (whole_is_dated flat start beside.tick log whole suits severe severe_first dated)
    (regular_at flat start log whole.texts whole.first).triggers (told_at flat start log whole.fits) n l

-- A base that fits is dated
module _ (conf : Conf) (base : Base) (fits : FitsBase conf base) where
  problem_dated : (r : Rec) → IsProblemBy base.now r → IsDatedBy base.now r
  problem_dated (Problem event now severity suppressed host trigger name tags) d = d
  problem_dated (Failure number host key why) d = tt
  problem_dated (Recovery event by now cause) d = tt
  problem_dated (Step event action step now) d = absurd d
  problem_dated (Message event action step recipient subject body) d = tt

  runs : (e : EventId) (ran : List Ran) → Each (λ (r : Ran). (1 ≤ r.step) × (r.now ≤ base.now)) ran → Each (IsDatedBy base.now) (map (read_ran e) ran)
  runs e [] h = tt
  runs e (r ∷ rs) h = (h.0, runs e rs h.1)

  problems_dated : (ps : List BaseProblem) → Each (FitsProblem conf base.number base.now) ps → Each (IsDatedBy base.now) (flat_map read_problem ps)
  problems_dated [] h = tt
  problems_dated (p ∷ ps) h =
      each_append (IsDatedBy base.now) (read_problem p) (flat_map read_problem ps) (problem_dated p.problem (h.0).problem, runs (event_of p.problem) p.ran (h.0).steps) (problems_dated ps h.1)

  values_dated : (id : ℕ) (i : Option Item) (k : Option BaseItem) → at_id conf.items id ≡ i → at_id base.items id ≡ k → Each (λ (s : Stored). (s.number ≤ base.number) × (s.time ≤ base.now)) (read_history i k)
  values_dated id None k p q = tt
  values_dated id (Some item) None p q = tt
  values_dated id (Some item) (Some kept) p q =
      each_reverse (λ (s : Stored). (s.number ≤ base.number) × (s.time ≤ base.now)) (map (read_value item.value_type) kept.values)
      (each_map (λ (s : Stored). (s.number ≤ base.number) × (s.time ≤ base.now)) (read_value item.value_type) kept.values (fits.items id item kept p q).upto)

  numbers_dated : (id : ℕ) (i : Option Item) (k : Option BaseItem) → at_id conf.items id ≡ i → at_id base.items id ≡ k → EachPair AreOther (read_history i k)
  numbers_dated id None k p q = tt
  numbers_dated id (Some item) None p q = tt
  numbers_dated id (Some item) (Some kept) p q =
      pairs_turned (map (read_value item.value_type) kept.values) (pairs_map AreOther (read_value item.value_type) kept.values (fits.items id item kept p q).numbers)

  row_there : (id : ℕ) (item : Item) → at_id conf.items id ≡ Some item → (kept : BaseItem) × (at_id base.items id ≡ Some kept)
  row_there id item there = go (at_id base.items id) refl
    where
      go : (o : Option BaseItem) → at_id base.items id ≡ o → (kept : BaseItem) × (at_id base.items id ≡ Some kept)
      go None q = let none : None ≡ Some item = sym (none_same base.items conf.items id fits.rows q) ∙ there in absurd (cc)
      go (Some kept) q = (kept, q)

  mark_there : (steps : List StepSpec) (kept : List BaseStep) (place : ℕ) (step : StepSpec) → length kept ≡ length steps → slice_get steps place ≡ Some step → (m : BaseStep) × (slice_get kept place ≡ Some m) × (told_step (mark_at (map read_step kept) place) ≡ m)
  mark_there [] kept place step l at = absurd (cc)
  mark_there (x ∷ xs) [] place step l at = absurd (omega arith)
  mark_there (x ∷ xs) (m ∷ ms) zero step l at = (m, refl, refl)
  mark_there (x ∷ xs) (m ∷ ms) (suc k) step l at = mark_there xs ms k step (omega arith) at

  pub its_dated : IsDated (told_start conf base) base.last_tick
  its_dated = record {
    ticks = fits.ticks;
    records = problems_dated base.problems fits.problems;
    values = λ id. values_dated id (at_id conf.items id) (at_id base.items id) refl refl;
    numbers = λ id. numbers_dated id (at_id conf.items id) (at_id base.items id) refl refl;
    marks = λ id item there. (let row = row_there id item there in
        ap (λ o. length (read_marks o)) row.1 ∙ map_long read_step row.0.steps ∙ (fits.items id item row.0 there row.1).steps);
    memories = λ id item place step there at. (let row = row_there id item there in
        let fit = fits.items id item row.0 there row.1 in
        let m = mark_there item.steps row.0.steps place step fit.steps at in
        subst (λ (ms : List StepMemory). FitsStep base.now step (told_step (mark_at ms place))) (sym (ap read_marks row.1)) (subst (FitsStep base.now step) (sym m.2) (fit.memories place step m.0 at m.1)));
  }

stands : (flat : List ℕ → Conf) (start : Start) (log : List Numbered) → ((text : List ℕ) → IsRegular (flat text)) → FitsStart start → IsRising start log → FitsWhole flat start log
stands flat start [] texts fits rising = fits
stands flat start (e ∷ log) texts fits rising = (stands flat start log texts fits rising.1, rising.0, has e.entry)
  where
    has : (entry : Entry) → HasDistinct flat entry
    has (Config now text) = (texts text).triggers
    has (Value now item time value) = tt
    has (Tick now) = tt

pub checkpoint_fits : CheckpointFits
checkpoint_fits flat conf base log texts regular fits rising = (
  its_dated conf base fits,
  record { texts = texts; first = regular; sound = fits_is_sound conf base fits; fits = stands flat (told_start conf base) log texts (fits_is_start conf base regular.triggers fits) rising },
)
