-- What a log leaves is dated.
use Rattle.std.proofs.Common.{◌≡◌, ◌≢◌, ◌≤◌, ◌<◌, inl, inr, ℕ, suc, zero, ◌+◌, ◌-◌, Bool, true, false, cond, not, Option, Some, None, List, [], ◌∷◌, ◌++◌, length, map, filter, take, option_map, slice_get, refl, sym, ◌∙◌, ap, subst, le_refl, arith}
use Rattle.std.specs.Prelude.{slice_index_or, option_and_then}
use Rattle.std.specs.Option.{option_or, option_map_or, unwrap_or}
use Rattle.zbx_types.specs.Entries.{moment_of}
use Rattle.zbx_types.specs.Ids.{at_id}
use Rattle.zbx_types.specs.declared.conf.Conf.{Conf}
use Rattle.zbx_types.specs.declared.entries.Cause2.TheVariants as causes
use Rattle.zbx_types.specs.declared.entries.Entry.{Entry}
use Rattle.zbx_types.specs.declared.entries.Entry.TheVariants.{Config, Value, Tick}
use Rattle.zbx_types.specs.declared.entries.Numbered.{Numbered}
use Rattle.zbx_types.specs.declared.entries.Rec.{Rec}
use Rattle.zbx_types.specs.declared.entries.Rec.TheVariants.{Failure, Problem, Recovery, Step, Message}
use Rattle.zbx_types.specs.declared.entries.Stored.{Stored}
use Rattle.zbx_types.specs.declared.items.Item.{Item}
use Rattle.zbx_types.specs.declared.steps.StepSpec.{StepSpec}
use Rattle.prep_steps.specs.Outcomes.{unmarked}
use Rattle.prep_steps.specs.declared.memory.StepMemory.{StepMemory}
use Rattle.preprocess.specs.Carry.{old_item, carried_along, steps_of, carried_for}
use Rattle.preprocess.specs.Cells.{no_marks}
use Rattle.preprocess.specs.Draft.{stored_by, stored_of as stored_in, visit_at}
use Rattle.preprocess.specs.Visits.{Arrival, result_of, visited, outcome_of, visit_of, visits_of}
use Rattle.preprocess.specs.Ways.{memory_at}
use Rattle.preprocess.specs.declared.chain.Chained.{Chained}
use Rattle.preprocess.specs.declared.ended.Ended.{Ended}
use Rattle.preprocess.specs.declared.ended.Ended.TheVariants as ended
use Rattle.preprocess.specs.declared.visit.Visit.{Visit}
use Rattle.value_cache.specs.Cells.{is_young, trim}
use Rattle.value_cache.specs.Histories.{is_later, placed}
use Rattle.value_cache.specs.Keeps.{keep_of}
use Rattle.value_cache.specs.declared.keeping.Keep.{Keep}
use Rattle.trigger_state.specs.Carry.{is_gone}
use Rattle.trigger_state.specs.Problems.{event_in, open_of}
use Rattle.trigger_state.specs.declared.problems.Open.{Open}
use Rattle.entry_step.specs.Behind.{behind}
use Rattle.entry_step.specs.Due.{by_making}
use Rattle.entry_step.specs.Each.{Each, In, EachPair}
use Rattle.entry_step.specs.History.{stored_of, marks_of, memory_of, with_stored}
use Rattle.entry_step.specs.InForce.{SuitsWhole}
use Rattle.entry_laws.specs.InForce.{left_by}
use Rattle.entry_step.specs.Log.{tick_of, IsFitting, IsRising}
use Rattle.entry_step.specs.Records.{recovery_of}
use Rattle.entry_step.specs.Start.{Start}
use Rattle.entry_step.specs.Whole.{Point, point_with, point, FitsWhole}
use Rattle.entry_laws.specs.Previous.{marked_at, last_mark}
use Rattle.entry_laws.specs.Remembered.{mark_at}
use Rattle.entry_laws.specs.Rising.{HaveOwnNames}
use Rattle.entry_step.proofs.Members.{each_append, each_at, each_from, each_sub}
use Rattle.entry_step.proofs.Visited.{Memory}
use Rattle.entry_laws.proofs.Previous.{long_is, previous_is, fresh_has_marks}
use Rattle.entry_laws.proofs.Rising.{steps_rise}
use Rattle.entry_step.proofs.Making.{pairs_filter}
use Rattle.base_laws.specs.Bases.{told_step, last_tick}
use Rattle.base_laws.specs.Dated.{IsDatedBy, IsDated, HasSeverities, FreshIsDated, WholeIsDated}
use Rattle.base_laws.specs.FitsBase.{FitsStep, FitTicks}
use Rattle.base_laws.specs.Sound.{IsSound}
use Rattle.base_laws.specs.WholeBases.{IsRegular}
use Rattle.base_laws.proofs.Again.{each_trim}
use Rattle.base_laws.proofs.Central.{behind_nothing}
use Rattle.base_laws.proofs.Configs.{config_start, same_type_found}
use Rattle.base_laws.proofs.Making.{in_kept}
use Rattle.base_laws.proofs.Memories.{fits_later, fits_marked, none_fit, fits_carried, none_long, carried_long}
use Rattle.base_laws.proofs.Stamped.{out_dated}
use Rattle.base_laws.proofs.Typed.{found_is, each_with}
use Rattle.base_laws.proofs.WholeBases.{records_at, number_at, moment_at, regular_at, plainly, left_plain, config_left, sound_at}

-- Moments that don't fall
pub dated_later : (now later : ℕ) (r : Rec) → now ≤ later → IsDatedBy now r → IsDatedBy later r
dated_later now later (Problem event t severity suppressed host trigger name tags) l d = (let k = d.0 in omega arith, d.1)
dated_later now later (Step event action step t) l d = (d.0, let k = d.1 in omega arith)
dated_later now later (Failure number host key why) l d = tt
dated_later now later (Recovery event by t cause) l d = tt
dated_later now later (Message event action step recipient subject body) l d = tt

ticks_later : (now later : ℕ) (first last : Option ℕ) → now ≤ later → FitTicks now first last → FitTicks later first last
ticks_later now later None None l f = tt
ticks_later now later None (Some b) l f = f
ticks_later now later (Some a) None l f = f
ticks_later now later (Some a) (Some b) l f = (f.0, let k = f.1 in omega arith)

ticks_with : (now : ℕ) (first last : Option ℕ) (entry : Entry) → now ≤ moment_of entry → FitTicks now first last → FitTicks (moment_of entry) (option_or first (tick_of entry)) (option_or (tick_of entry) last)
ticks_with now None None (Config t text) l f = tt
ticks_with now None None (Value t item time value) l f = tt
ticks_with now None None (Tick t) l f = (le_refl t, le_refl t)
ticks_with now None (Some b) entry l f = absurd f
ticks_with now (Some a) None entry l f = absurd f
ticks_with now (Some a) (Some b) (Config t text) l f = (f.0, let k = f.1 in omega arith)
ticks_with now (Some a) (Some b) (Value t item time value) l f = (f.0, let k = f.1 in omega arith)
ticks_with now (Some a) (Some b) (Tick t) l f = (let j = f.0 in let k = f.1 in omega arith, le_refl t)

-- What is stored
module _ (time number : ℕ) (s : Stored) where
  end_dated : (end : Ended) → stored_by (outcome_of time number end) ≡ Some s → (s.number ≡ number) × (s.time ≡ time)
  end_dated (ended.Stored held text) e =
      let same : record { time = time; number = number; value = held } ≡ s = cc in
      (sym (ap (λ (x : Stored). x.number) same), sym (ap (λ (x : Stored). x.time) same))
  end_dated ended.Discarded e = absurd (cc)
  end_dated (ended.Failed why) e = absurd (cc)

module _ (conf : Conf) (memory : Memory) (arrival : Arrival) (id : ℕ) (s : Stored) where
  abbrev found : ℕ → Option Visit
  found j = option_map (visit_of arrival.time arrival.number j) (result_of conf memory arrival j)

  found_item : (j : ℕ) (v : Visit) → found j ≡ Some v → v.item ≡ j
  found_item j v e = go (result_of conf memory arrival j) e
    where
      go : (o : Option Chained) → option_map (visit_of arrival.time arrival.number j) o ≡ Some v → v.item ≡ j
      go None q = absurd (cc)
      go (Some chained) q = let same : visit_of arrival.time arrival.number j chained ≡ v = cc in sym (ap (λ x. x.item) same)

  visit_dated : (v : Visit) → found id ≡ Some v → stored_by v.outcome ≡ Some s → (s.number ≡ arrival.number) × (s.time ≡ arrival.time)
  visit_dated v e stores = go (result_of conf memory arrival id) e
    where
      go : (o : Option Chained) → option_map (visit_of arrival.time arrival.number id) o ≡ Some v → (s.number ≡ arrival.number) × (s.time ≡ arrival.time)
      go None q = absurd (cc)
      go (Some chained) q =
          let same : visit_of arrival.time arrival.number id chained ≡ v = cc in
          end_dated arrival.time arrival.number s chained.end (ap (λ (w : Visit). stored_by w.outcome) same ∙ stores)

  value_dated : stored_in (visit_at (visits_of conf memory arrival) id) ≡ Some s → (s.number ≡ arrival.number) × (s.time ≡ arrival.time)
  unfolding visits_of
  value_dated e = go (visit_at (visits_of conf memory arrival) id) refl e
    where
      go : (o : Option Visit) → visit_at (visits_of conf memory arrival) id ≡ o → stored_in o ≡ Some s → (s.number ≡ arrival.number) × (s.time ≡ arrival.time)
      go None q r = absurd (cc)
      go (Some v) q r = visit_dated v (found_is found found_item (visited conf (length conf.items - 1) arrival.item) id v q) r

stored_dated : (conf : Conf) (memory : Memory) (number : ℕ) (entry : Entry) (id : ℕ) (s : Stored) → IsFitting conf entry → stored_of conf memory number entry id ≡ Some s → (s.number ≡ number) × (s.time ≤ moment_of entry)
unfolding stored_of
stored_dated conf memory number (Config now text) id s fits e = absurd (cc)
stored_dated conf memory number (Tick now) id s fits e = absurd (cc)
stored_dated conf memory number (Value now i time value) id s fits e =
    let d = value_dated conf memory (record { item = i; time = time; number = number; value = value }) id s e in
    (d.0, let t = d.1 in let l = fits.1 in omega arith)

-- Values of different entries
abbrev pub AreOther : Stored → Stored → Type 0
AreOther s t = s.number ≢ t.number

pairs_placed : (s : Stored) (h : List Stored) → Each (λ x. AreOther s x × AreOther x s) h → EachPair AreOther h → EachPair AreOther (placed s h)
pairs_placed s [] o e = (tt, tt)
pairs_placed s (x ∷ xs) o e = go (is_later x s) (pairs_placed s xs o.1 e.1)
  where
    each_placed : (h : List Stored) → AreOther x s → Each (AreOther x) h → Each (AreOther x) (placed s h)
    each_placed [] p q = (p, tt)
    each_placed (y ∷ ys) p q = at (is_later y s) (each_placed ys p q.1)
      where
        at : (b : Bool) → Each (AreOther x) (placed s ys) → Each (AreOther x) (cond b (y ∷ placed s ys) (s ∷ y ∷ ys))
        at true ih = (q.0, ih)
        at false ih = (p, q)

    go : (b : Bool) → EachPair AreOther (placed s xs) → EachPair AreOther (cond b (x ∷ placed s xs) (s ∷ x ∷ xs))
    go true ih = (each_placed xs (o.0).1 e.0, ih)
    go false ih = (each_sub (λ y. AreOther s y × AreOther y s) (AreOther s) (x ∷ xs) (λ y k. k.0) o, e)

pairs_with_one : (o : Option Stored) (h : List Stored) → ((s : Stored) → o ≡ Some s → Each (λ x. AreOther s x × AreOther x s) h) → EachPair AreOther h → EachPair AreOther (with_stored o h)
pairs_with_one None h f e = e
pairs_with_one (Some s) h f e = pairs_placed s h (f s refl) e

-- what is kept of them
pairs_take : (n : ℕ) (xs : List Stored) → EachPair AreOther xs → EachPair AreOther (take n xs)
pairs_take zero xs e = tt
pairs_take (suc n) [] e = tt
pairs_take (suc n) (x ∷ xs) e = (each_take n xs e.0, pairs_take n xs e.1)
  where
    each_take : (k : ℕ) (ys : List Stored) → Each (AreOther x) ys → Each (AreOther x) (take k ys)
    each_take zero ys h = tt
    each_take (suc k) [] h = tt
    each_take (suc k) (y ∷ ys) h = (h.0, each_take k ys h.1)

in_take : (n : ℕ) (x : Stored) (xs : List Stored) → In x (take n xs) → In x xs
in_take zero x xs i = absurd i
in_take (suc n) x [] i = absurd i
in_take (suc n) x (y ∷ ys) (inl e) = inl e
in_take (suc n) x (y ∷ ys) (inr i) = inr (in_take n x ys i)

one_place : (xs : List Stored) → EachPair AreOther xs → (x y : Stored) → In x xs → In y xs → x.number ≡ y.number → x ≡ y
one_place [] e x y i j q = absurd i
one_place (z ∷ zs) e x y (inl a) (inl b) q = a ∙ sym b
one_place (z ∷ zs) e x y (inl a) (inr j) q = absurd (each_at (AreOther z) zs e.0 y j (ap (λ (s : Stored). s.number) (sym a) ∙ q))
one_place (z ∷ zs) e x y (inr i) (inl b) q = absurd (each_at (AreOther z) zs e.0 x i (ap (λ (s : Stored). s.number) (sym b) ∙ sym q))
one_place (z ∷ zs) e x y (inr i) (inr j) q = one_place zs e.1 x y i j q

pub pairs_both : (xs ys : List Stored) → EachPair AreOther xs → EachPair AreOther ys → ((x y : Stored) → In x xs → In y ys → AreOther x y) → EachPair AreOther (xs ++ ys)
pairs_both [] ys a b c = b
pairs_both (x ∷ xs) ys a b c = (each_append (AreOther x) xs ys a.0 (each_from (AreOther x) ys (λ y j. c x y (inl refl) j)), pairs_both xs ys a.1 b (λ z y i j. c z y (inr i) j))

pub pairs_trim : (keep : Keep) (now : ℕ) (h : List Stored) → EachPair AreOther h → EachPair AreOther (trim keep now h)
unfolding trim
pairs_trim keep now h e =
    pairs_both (filter young h) (take keep.count (filter old h)) (pairs_filter AreOther young h e) (pairs_take keep.count (filter old h) (pairs_filter AreOther old h e)) apart
  where
    young : Stored → Bool
    young s = is_young keep now s

    old : Stored → Bool
    old s = not (is_young keep now s)

    clash : (b : Bool) → b ≡ true → not b ≡ true → ⊥
    clash true p q = cc
    clash false p q = cc

    apart : (x y : Stored) → In x (filter young h) → In y (take keep.count (filter old h)) → AreOther x y
    apart x y i j = λ q.
        (let a = in_kept young x h i in
        let b = in_kept old y h (in_take keep.count y (filter old h) j) in
        let same : x ≡ y = one_place h e x y a.0 b.0 q in
        clash (is_young keep now x) a.1 (ap (λ s. not (is_young keep now s)) same ∙ b.1))

-- A Value or Tick
module _ (start : Start) (last : Option ℕ) (e : Numbered) (own : HaveOwnNames start.stage.conf.actions) (severe : HasSeverities start.stage.conf) (sound : IsSound start) (dated : IsDated start last) (later : start.number < e.number)
    (late : start.moment ≤ moment_of e.entry) (fitting : IsFitting start.stage.conf e.entry) where
  rising : IsRising start (e ∷ [])
  rising = (later, tt)

  value_upto : (id : ℕ) → Each (λ (s : Stored). (s.number ≤ e.number) × (s.time ≤ moment_of e.entry)) (start.histories id)
  value_upto id = each_sub (λ (s : Stored). (s.number ≤ start.number) × (s.time ≤ start.moment)) (λ (s : Stored). (s.number ≤ e.number) × (s.time ≤ moment_of e.entry)) (start.histories id) (λ s k. (let a = k.0 in omega arith, let b = k.1 in omega arith)) (dated.values id)

  others : (id : ℕ) (s : Stored) → s.number ≡ e.number → Each (λ x. AreOther s x × AreOther x s) (start.histories id)
  others id s n =
      each_sub (λ (x : Stored). (x.number ≤ start.number) × (x.time ≤ start.moment)) (λ x. AreOther s x × AreOther x s) (start.histories id)
      (λ x k. (λ q. (let a = k.0 in absurd (omega arith)), λ q. (let a = k.0 in absurd (omega arith)))) (dated.values id)

  marks_fit : (id : ℕ) (item : Item) (place : ℕ) (step : StepSpec) → at_id start.stage.conf.items id ≡ Some item → slice_get item.steps place ≡ Some step → FitsStep (moment_of e.entry) step (told_step (mark_at (marks_of start (e ∷ []) id) place))
  unfolding last_mark
  marks_fit id item place step there at =
      let back : place ≡ (place + 1) - 1 = omega arith in
      subst (λ (m : StepMemory). FitsStep (moment_of e.entry) step (told_step m))
      (sym (ap (λ k. slice_index_or (marks_of start (e ∷ []) id) k unmarked) back ∙ previous_is start (e ∷ []) dated.marks id (place + 1))) (go (marked_at start.stage.conf (last_mark start []) e.number e.entry id (place + 1)) refl)
    where
      go : (o : Option StepMemory) → marked_at start.stage.conf (last_mark start []) e.number e.entry id (place + 1) ≡ o → FitsStep (moment_of e.entry) step (told_step (unwrap_or o (memory_at (start.marks id) (place + 1))))
      go (Some m) q = fits_marked start.stage.conf (last_mark start []) e.number e.entry id item place step m there at fitting q
      go None q =
          let back : place ≡ (place + 1) - 1 = omega arith in
          subst (λ (k : ℕ). FitsStep (moment_of e.entry) step (told_step (slice_index_or (start.marks id) k unmarked))) back
          (fits_later start.moment (moment_of e.entry) step (mark_at (start.marks id) place) late (dated.memories id item place step there at))

  pub entry_dated : IsDated (behind start (e ∷ [])) (last_tick last (e ∷ []))
  entry_dated = record {
    ticks = ticks_with start.moment start.tick last e.entry late dated.ticks;
    records = each_append (IsDatedBy (moment_of e.entry)) start.records _ (each_sub (IsDatedBy start.moment) (IsDatedBy (moment_of e.entry)) start.records (λ r d. dated_later start.moment (moment_of e.entry) r late d) dated.records)
        (out_dated start [] e (start.records ++ []) start.records severe (steps_rise start (e ∷ []) own sound.steps rising).0);
    values = λ id. each_with (λ (s : Stored). (s.number ≤ e.number) × (s.time ≤ moment_of e.entry)) (stored_of start.stage.conf (memory_of start []) e.number e.entry id) (start.histories id)
        (λ s q. (let d = stored_dated start.stage.conf (memory_of start []) e.number e.entry id s fitting q in (let n = d.0 in omega arith, d.1))) (value_upto id);
    numbers = λ id. pairs_with_one (stored_of start.stage.conf (memory_of start []) e.number e.entry id) (start.histories id)
        (λ s q. others id s (stored_dated start.stage.conf (memory_of start []) e.number e.entry id s fitting q).0) (dated.numbers id);
    marks = λ id item there. long_is start dated.marks (e ∷ []) id item there;
    memories = marks_fit;
  }

-- A Config
module _ (start : Start) (last : Option ℕ) (new : Conf) (n now : ℕ) (dated : IsDated start last) (later : start.number < n) (late : start.moment ≤ now) where
  abbrev old : Conf
  old = start.stage.conf

  recoveries : (gs : List Open) → Each (IsDatedBy now) (map (λ (g : Open). recovery_of n now causes.Removed (event_in g)) gs)
  recoveries [] = tt
  recoveries (g ∷ gs) = (tt, recoveries gs)

  values_at : (x : Option ℕ) → Each (λ (s : Stored). (s.number ≤ n) × (s.time ≤ now)) (option_map_or (λ before. trim (keep_of old before) now (start.histories before)) x [])
  values_at None = tt
  values_at (Some before) =
      each_trim (λ (s : Stored). (s.number ≤ n) × (s.time ≤ now)) (keep_of old before) now (start.histories before)
      (each_sub (λ (s : Stored). (s.number ≤ start.number) × (s.time ≤ start.moment)) (λ (s : Stored). (s.number ≤ n) × (s.time ≤ now)) (start.histories before) (λ s k. (let a = k.0 in omega arith, let b = k.1 in omega arith)) (dated.values before))

  numbers_at : (x : Option ℕ) → EachPair AreOther (option_map_or (λ before. trim (keep_of old before) now (start.histories before)) x [])
  numbers_at None = tt
  numbers_at (Some before) = pairs_trim (keep_of old before) now (start.histories before) (dated.numbers before)

  long_at : (item : Item) (x : Option ℕ) → length (option_map_or (λ before. carried_along (steps_of old before) (start.marks before) item.steps) x (no_marks item)) ≡ length item.steps
  long_at item None = none_long item.steps
  long_at item (Some before) = carried_long (steps_of old before) (start.marks before) item.steps

  fit_at : (item : Item) (place : ℕ) (step : StepSpec) → slice_get item.steps place ≡ Some step → (x : Option ℕ) → old_item old new item ≡ x
      → FitsStep now step (told_step (mark_at (option_map_or (λ before. carried_along (steps_of old before) (start.marks before) item.steps) x (no_marks item)) place))
  fit_at item place step at None q = none_fit now item.steps place step at
  fit_at item place step at (Some before) q =
      let found = same_type_found old new item before q in
      fits_carried now (steps_of old before) (start.marks before) item.steps place step
      (λ k s r. fits_later start.moment now s (mark_at (start.marks before) k) late (dated.memories before found.0 k s found.1 (ap (λ (x : Option Item). slice_get (option_map_or (λ (i : Item). i.steps) x []) k) (sym found.1) ∙ r))) at

  pub config_dated : IsDated (config_start start new n now) last
  unfolding marks_of
  config_dated = record {
    ticks = ticks_later start.moment now start.tick last late dated.ticks;
    records = each_append (IsDatedBy now) start.records _ (each_sub (IsDatedBy start.moment) (IsDatedBy now) start.records (λ r d. dated_later start.moment now r late d) dated.records)
        (recoveries (filter (is_gone new) (by_making start.stage (open_of start.stage start.records))));
    values = λ id. values_at (option_and_then (old_item old new) (at_id new.items id));
    numbers = λ id. numbers_at (option_and_then (old_item old new) (at_id new.items id));
    marks = λ id item there. ap (λ x. length (option_map_or (carried_for old new start.marks) x [])) there ∙ long_at item (old_item old new item);
    memories = λ id item place step there at. subst (λ x. FitsStep now step (told_step (mark_at (option_map_or (carried_for old new start.marks) x []) place))) (sym there) (fit_at item place step at (old_item old new item) refl);
  }

-- Whole logs
module _ (flat : List ℕ → Conf) (start : Start) (last : Option ℕ) (texts : (text : List ℕ) → IsRegular (flat text)) (first : IsRegular start.stage.conf) (sound : IsSound start)
    (severe : (text : List ℕ) → HasSeverities (flat text)) (severe_first : HasSeverities start.stage.conf) (dated : IsDated start last) where
  severe_at : (log : List Numbered) → HasSeverities (point flat start log).start.stage.conf
  severe_at [] = severe_first
  severe_at (e ∷ log) = go e.entry (severe_at log)
    where
      go : (entry : Entry) → HasSeverities (point flat start log).start.stage.conf → HasSeverities (point_with flat (point flat start log) e entry).start.stage.conf
      go (Config now text) ih = severe text
      go (Value now item time value) ih = ih
      go (Tick now) ih = ih

  dated_at : (log : List Numbered) → FitsWhole flat start log → SuitsWhole flat start log → IsDated (left_by (point flat start log)) (last_tick last log)
  dated_at [] fits suits = subst (λ (s : Start). IsDated s last) (sym (behind_nothing start)) dated
  dated_at (e ∷ log) fits suits = go e.entry refl (dated_at log fits.0 suits.0)
    where
      p : Point
      p = point flat start log

      same : p.records ≡ (left_by p).records
      same = records_at flat start log

      regular : IsRegular p.start.stage.conf
      regular = regular_at flat start log texts first

      later : (left_by p).number < e.number
      later = subst (λ n. n < e.number) (sym (number_at flat start log)) fits.1

      late : (left_by p).moment ≤ moment_of e.entry
      late = subst (λ m. m ≤ moment_of e.entry) (sym (moment_at flat start log)) suits.1

      plain : IsDated (left_by p) (last_tick last log) → IsDated (left_by (plainly p e same)) (last_tick last (e ∷ log))
      plain ih =
          subst (λ (s : Start). IsDated s (last_tick last (e ∷ log))) (sym (left_plain p e same))
          (entry_dated (left_by p) (last_tick last log) e regular.actions (severe_at log) (sound_at flat start texts first sound log fits.0) ih later late suits.2)

      go : (entry : Entry) → e.entry ≡ entry → IsDated (left_by p) (last_tick last log) → IsDated (left_by (point_with flat p e entry)) (last_tick last (e ∷ log))
      go (Config now text) q ih =
          let l : (left_by p).moment ≤ now = subst (λ (x : Entry). (left_by p).moment ≤ moment_of x) q late in
          let t : last_tick last (e ∷ log) ≡ last_tick last log = ap (λ (x : Entry). option_or (tick_of x) (last_tick last log)) q in
          subst (IsDated (left_by (point_with flat p e (Config now text)))) (sym t)
          (subst (λ (s : Start). IsDated s (last_tick last log)) (sym (config_left p e same (flat text) now)) (config_dated (left_by p) (last_tick last log) (flat text) e.number now ih later l))
      go (Value now item time value) q ih = plain ih
      go (Tick now) q ih = plain ih

pub whole_is_dated : WholeIsDated
whole_is_dated flat start last log whole suits severe severe_first dated = dated_at flat start last whole.texts whole.first whole.sound severe severe_first dated log whole.fits suits

pub fresh_is_dated : FreshIsDated
fresh_is_dated stage = record {
  ticks = tt;
  records = tt;
  values = λ id. tt;
  numbers = λ id. tt;
  marks = fresh_has_marks stage;
  memories = λ id item place step there at. subst (λ (x : Option Item). FitsStep 0 step (told_step (mark_at (option_map_or no_marks x []) place))) (sym there) (none_fit 0 item.steps place step at);
}
