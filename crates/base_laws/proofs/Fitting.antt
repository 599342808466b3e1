-- A base that fits is a sound start.
use Rattle.std.proofs.Common.{◌≡◌, ◌≤◌, ◌<◌, ◌^◌, ◌==◌, ℕ, Bool, true, false, cond, not, ◌&&◌, ◌⊎◌, inl, inr, Option, Some, None, List, [], ◌∷◌, ◌++◌, map, flat_map, refl, sym, ◌∙◌, ap, subst, eqb-true, ℤ, pos, unsigned_abs, arith}
use Rattle.std.specs.List.{list_any}
use Rattle.std.specs.Option.{unwrap_or}
use Rattle.std.proofs.lemmas.Bool.{cases_order}
use Rattle.zbx_types.specs.Ids.{at_id}
use Rattle.zbx_types.specs.Numerals.{read_number}
use Rattle.zbx_types.specs.Records.{event_of, host_of, trigger_name_of}
use Rattle.zbx_types.specs.declared.base.Base.{Base}
use Rattle.zbx_types.specs.declared.base.BaseItem.{BaseItem}
use Rattle.zbx_types.specs.declared.base.BaseProblem.{BaseProblem}
use Rattle.zbx_types.specs.declared.base.BaseValue.{BaseValue}
use Rattle.zbx_types.specs.declared.base.Ran.{Ran}
use Rattle.zbx_types.specs.declared.conf.Conf.{Conf}
use Rattle.zbx_types.specs.declared.entries.EventId.{EventId}
use Rattle.zbx_types.specs.declared.entries.Rec.{Rec}
use Rattle.zbx_types.specs.declared.entries.Rec.TheVariants.{Failure, Problem, Recovery, Step, Message}
use Rattle.zbx_types.specs.declared.items.Item.{Item}
use Rattle.zbx_types.specs.declared.items.ValueType.{ValueType}
use Rattle.zbx_types.specs.declared.items.ValueType.TheVariants as type
use Rattle.zbx_types.proofs.ReadAgain.{written_is_read}
use Rattle.zbx_types.proofs.RowLemmas.{at_zero}
use Rattle.event_correlation.specs.Laws.{HasTagsOf}
use Rattle.value_cache.specs.Histories.{IsOrdered}
use Rattle.trigger_state.specs.Stages.{Stage, id_named, home, rank_of}
use Rattle.trigger_state.specs.Problems.{event_in, opens, recovers, opened, open_of}
use Rattle.trigger_state.specs.declared.problems.Open.{Open}
use Rattle.trigger_state.specs.declared.stage.Origin.{Origin}
use Rattle.entry_step.specs.Cells.{look}
use Rattle.entry_step.specs.Each.{Each, EachPair}
use Rattle.entry_step.specs.Making.{is_problem, open_any}
use Rattle.entry_step.specs.Represents.{IsTagged}
use Rattle.entry_step.specs.Whole.{IsTold}
use Rattle.entry_step.proofs.Finding.{some_one, named_found}
use Rattle.entry_step.proofs.Making.{Precedes, OfProblem, open_part, open_pairs, pairs_filter}
use Rattle.entry_step.proofs.Members.{each_append, each_from, each_sub}
use Rattle.entry_step.proofs.Phases.{none_same}
use Rattle.base_laws.specs.Alike.{IsMadeBefore}
use Rattle.base_laws.specs.Bases.{read_held, read_value, read_ran, read_problem, read_history, read_marks, start_records, base_stage}
use Rattle.base_laws.specs.FitsBase.{IsTextOf, IsProblemBy, trigger_by_names, FitsProblem, ComesBehind, FitsBase, FitsIsSound, FitsIsStart}
use Rattle.base_laws.specs.Sound.{IsOfType, AreInOrder}
use Rattle.base_laws.proofs.Again.{each_reverse}
use Rattle.base_laws.proofs.Making.{pairs_sub, pairs_and}
use Rattle.base_laws.proofs.Places.{AreApart, homes_by_names, rise_by_place, origins_upto}
use Rattle.base_laws.proofs.Restart.{Stands, stand}
use Rattle.base_laws.proofs.Retold.{homes_kept}

-- The problems
is_by : (now : ℕ) (r : Rec) → IsProblemBy now r → is_problem r ≡ true
is_by moment (Problem event now severity suppressed host trigger name tags) h = refl
is_by moment (Failure number host key why) h = absurd h
is_by moment (Recovery event by now cause) h = absurd h
is_by moment (Step event action step now) h = absurd h
is_by moment (Message event action step recipient subject body) h = absurd h

-- what holds of the records that open problems of a trigger holds of these
pub all_have : (P : Rec → Type 0) (stage : Stage) (rs : List Rec) (id : ℕ) → Each (λ r. opens stage id r ≡ true → P r) rs → Each (λ o. P o.problem) (open_of stage rs id)
all_have P stage [] id m = tt
all_have P stage (r ∷ rs) id m = go (opens stage id r) refl (not (list_any (recovers (event_of r)) rs)) (all_have P stage rs id m.1)
  where
    go : (a : Bool) → opens stage id r ≡ a → (b : Bool) → Each (λ o. P o.problem) (open_of stage rs id) → Each (λ o. P o.problem) (cond (a && b) (opened stage r rs ∷ open_of stage rs id) (open_of stage rs id))
    go true q true ih = (m.0 q, ih)
    go true q false ih = ih
    go false q b ih = ih

-- The values
text_typed : (t : ValueType) (text : List ℕ) → IsTextOf t text → IsOfType t (read_held t text)
text_typed type.Number text is =
    let read : read_number text ≡ Some is.0 = ap read_number is.2 ∙ written_is_read is.0 is.1 in
    subst (λ (o : Option ℤ). unsigned_abs (unwrap_or o (pos 0)) ≤ 10 ^ 30) (sym read) is.1
text_typed type.Words text is = tt

values_typed : (t : ValueType) (vs : List BaseValue) → Each (λ v. IsTextOf t v.value) vs → Each (λ s. IsOfType t s.value) (map (read_value t) vs)
values_typed t [] h = tt
values_typed t (v ∷ vs) h = (text_typed t v.value h.0, values_typed t vs h.1)

-- Problems that stand in order
module _ (R : EventId → EventId → Type 0) where
  abbrev Comes : Rec → Rec → Type 0
  Comes r s = OfProblem (λ v. OfProblem (λ w. R v w) s) r

  comes_step : (r : Rec) (e : EventId) (x : Ran) → Comes r (read_ran e x)
  comes_step (Problem event now severity suppressed host trigger name tags) e x = tt
  comes_step (Failure number host key why) e x = tt
  comes_step (Recovery event by now cause) e x = tt
  comes_step (Step event action step now) e x = tt
  comes_step (Message event action step recipient subject body) e x = tt

  comes_both : (r s : Rec) → R (event_of r) (event_of s) → Comes r s
  comes_both (Problem event now severity suppressed host trigger name tags) s h = go s h
    where
      go : (s : Rec) → R event (event_of s) → OfProblem (λ w. R event w) s
      go (Problem e t v q k u m gs) h = h
      go (Failure number k key why) h = tt
      go (Recovery e by t cause) h = tt
      go (Step e action step t) h = tt
      go (Message e action step recipient subject body) h = tt
  comes_both (Failure number host key why) s h = tt
  comes_both (Recovery event by now cause) s h = tt
  comes_both (Step event action step now) s h = tt
  comes_both (Message event action step recipient subject body) s h = tt

  each_behind : (r : Rec) (qs : List BaseProblem) → Each (λ q. R (event_of r) (event_of q.problem)) qs → Each (Comes r) (flat_map read_problem qs)
  each_behind r [] h = tt
  each_behind r (q ∷ qs) h = each_append (Comes r) (read_problem q) (flat_map read_problem qs) (comes_both r q.problem h.0, steps q.ran) (each_behind r qs h.1)
    where
      steps : (ran : List Ran) → Each (Comes r) (map (read_ran (event_of q.problem)) ran)
      steps [] = tt
      steps (x ∷ xs) = (comes_step r (event_of q.problem) x, steps xs)

  all_come : (ps : List BaseProblem) → EachPair (λ p q. R (event_of p.problem) (event_of q.problem)) ps → EachPair Comes (flat_map read_problem ps)
  all_come [] h = tt
  all_come (p ∷ ps) h = (each_append (Comes p.problem) (map (read_ran (event_of p.problem)) p.ran) rest (own p.ran) (each_behind p.problem ps h.0), steps (all_come ps h.1) p.ran)
    where
      rest : List Rec
      rest = flat_map read_problem ps

      own : (ran : List Ran) → Each (Comes p.problem) (map (read_ran (event_of p.problem)) ran)
      own [] = tt
      own (x ∷ xs) = (comes_step p.problem (event_of p.problem) x, own xs)

      steps : EachPair Comes rest → (ran : List Ran) → EachPair Comes (map (read_ran (event_of p.problem)) ran ++ rest)
      steps ih [] = ih
      steps ih (x ∷ xs) = (each_from (λ s. Unit {0}) (map (read_ran (event_of p.problem)) xs ++ rest) (λ s i. tt), steps ih xs)

module _ (conf : Conf) (base : Base) (fits : FitsBase conf base) where
  abbrev stage : Stage
  stage = base_stage conf base

  apart : EachPair AreApart base.problems
  apart = pairs_sub ComesBehind AreApart base.problems (λ p q k. k.1) fits.order

  abbrev Places : BaseProblem → BaseProblem → Type 0
  Places p q = rank_of stage (event_of p.problem) < rank_of stage (event_of q.problem)

  precede : EachPair (λ p q. Precedes stage (event_of p.problem) (event_of q.problem)) base.problems
  precede =
      pairs_sub (λ p q. ComesBehind p q × Places p q) (λ p q. Precedes stage (event_of p.problem) (event_of q.problem)) base.problems one
      (pairs_and ComesBehind Places base.problems fits.order (rise_by_place conf base apart))
    where
      one : (p q : BaseProblem) → ComesBehind p q × Places p q → Precedes stage (event_of p.problem) (event_of q.problem)
      one p q h = go (cases_order (event_of p.problem).number (event_of q.problem).number)
        where
          go : ((event_of p.problem).number ≡ (event_of q.problem).number) ⊎ (((event_of p.problem).number < (event_of q.problem).number) ⊎ ((event_of q.problem).number < (event_of p.problem).number)) → Precedes stage (event_of p.problem) (event_of q.problem)
          go (inl n) = inr (n, inl h.1)
          go (inr (inl l)) = inl l
          go (inr (inr l)) = let m = (h.0).0 in absurd (omega arith)

  weaker : (o x : Open) → Precedes stage (event_in o) (event_in x) → IsMadeBefore stage (event_in o) (event_in x)
  weaker o x (inl l) = inl l
  weaker o x (inr (n, inl l)) = inr (n, inl l)
  weaker o x (inr (n, inr r)) = let l = r.1 in inr (n, inr (r.0, omega arith))

  in_order : (id : ℕ) → AreInOrder stage (open_of stage (start_records base) id)
  in_order id =
      subst (AreInOrder stage) (sym (open_part stage (start_records base) id))
      (pairs_filter (λ (o x : Open). IsMadeBefore stage (event_in o) (event_in x)) (λ o. home stage (event_in o) == id) (open_any stage (start_records base))
      (pairs_sub (λ (o x : Open). Precedes stage (event_in o) (event_in x)) (λ (o x : Open). IsMadeBefore stage (event_in o) (event_in x)) (open_any stage (start_records base)) weaker
      (open_pairs stage (start_records base) (all_come (Precedes stage) base.problems precede))))

  -- a problem is told right where it is at home
  told_by : (p : BaseProblem) → FitsProblem conf base.number base.now p → IsTold conf base.number (trigger_by_names conf p.problem) p.problem
  told_by p f = go (id_named conf (host_of p.problem) (trigger_name_of p.problem)) refl f.trigger
    where
      go : (o : Option ℕ) → id_named conf (host_of p.problem) (trigger_name_of p.problem) ≡ o → IsTagged conf (unwrap_or o 0) p.problem → IsTold conf base.number (unwrap_or o 0) p.problem
      go None q t = let z : None ≡ Some t.0 = sym (at_zero conf.triggers) ∙ t.1 in absurd (cc)
      go (Some id) q t =
          let found = named_found conf (host_of p.problem) (trigger_name_of p.problem) id q in
          let same : found.trigger ≡ t.0 = some_one found.trigger t.0 (sym found.there ∙ t.1) in
          record { trigger = found.trigger; there = found.there; host = sym found.its_host; name = sym found.its_name; tags = subst (λ u. HasTagsOf u p.problem) (sym same) t.2; upto = f.upto }

  makes_told : (r : Rec) → home stage (event_of r) ≡ trigger_by_names conf r → IsTold conf base.number (trigger_by_names conf r) r → (id : ℕ) → opens stage id r ≡ true → IsTold conf base.number id r
  makes_told (Problem event now severity suppressed host trigger name tags) at told id q =
      let r : Rec = Problem event now severity suppressed host trigger name tags in
      subst (λ k. IsTold conf base.number k r) (sym at ∙ eqb-true (home stage event) id q) told
  makes_told (Failure number host key why) at told id q = cc
  makes_told (Recovery event by now cause) at told id q = cc
  makes_told (Step event action step now) at told id q = cc
  makes_told (Message event action step recipient subject body) at told id q = cc

  records_told : (id : ℕ) (ps : List BaseProblem) → Each (FitsProblem conf base.number base.now) ps → Each (λ p. home stage (event_of p.problem) ≡ trigger_by_names conf p.problem) ps → Each (λ r. opens stage id r ≡ true → IsTold conf base.number id r) (flat_map read_problem ps)
  records_told id [] f h = tt
  records_told id (p ∷ ps) f h =
      each_append (λ r. opens stage id r ≡ true → IsTold conf base.number id r) (read_problem p) (flat_map read_problem ps)
      (makes_told p.problem h.0 (told_by p f.0) id, steps p.ran) (records_told id ps f.1 h.1)
    where
      steps : (ran : List Ran) → Each (λ r. opens stage id r ≡ true → IsTold conf base.number id r) (map (read_ran (event_of p.problem)) ran)
      steps [] = tt
      steps (x ∷ xs) = ((λ q. cc), steps xs)

  all_told : (id : ℕ) → Each (λ o. IsTold conf base.number id o.problem) (open_of stage (start_records base) id)
  all_told id = all_have (IsTold conf base.number id) stage (start_records base) id (records_told id base.problems fits.problems (homes_by_names conf base apart))

  origins_are : Each (λ (o : Origin). o.event.number ≤ base.number) stage.origins
  origins_are = origins_upto base.number 0 base.problems (each_sub (FitsProblem conf base.number base.now) (λ p. (event_of p.problem).number ≤ base.number) base.problems (λ p f. f.upto) fits.problems)

  ordered : (id : ℕ) (i : Option Item) (k : Option BaseItem) → at_id conf.items id ≡ i → at_id base.items id ≡ k → IsOrdered (read_history i k)
  ordered id None k p q = tt
  ordered id (Some item) None p q = tt
  ordered id (Some item) (Some kept) p q = (fits.items id item kept p q).ordered

  types : (id : ℕ) (item : Item) → at_id conf.items id ≡ Some item → (k : Option BaseItem) → at_id base.items id ≡ k → Each (λ s. IsOfType item.value_type s.value) (read_history (at_id conf.items id) (at_id base.items id))
  types id item there None q = subst (λ o. Each (λ s. IsOfType item.value_type s.value) (read_history o (at_id base.items id))) (sym there) (subst (λ o. Each (λ s. IsOfType item.value_type s.value) (read_history (Some item) o)) (sym q) tt)
  types id item there (Some kept) q =
      subst (λ o. Each (λ s. IsOfType item.value_type s.value) (read_history o (at_id base.items id))) (sym there)
      (subst (λ o. Each (λ s. IsOfType item.value_type s.value) (read_history (Some item) o)) (sym q)
      (each_reverse (λ s. IsOfType item.value_type s.value) (map (read_value item.value_type) kept.values) (values_typed item.value_type kept.values (fits.items id item kept there q).texts)))

pub fits_is_sound : FitsIsSound
unfolding look
fits_is_sound conf base fits =
    let both = stand base.number base.problems (each_sub (FitsProblem conf base.number base.now) (Stands base.number) base.problems (λ p f. record { problem = is_by base.now p.problem f.problem; number = f.upto; ran = f.actions }) fits.problems) fits.order in
    record {
      good = record {
        tidy = record {
          homes = homes_kept (base_stage conf base) (start_records base);
          tagged = λ id. each_sub (λ o. IsTold conf base.number id o.problem) (λ o. IsTagged conf id o.problem) (open_of (base_stage conf base) (start_records base) id) (λ o t. (t.trigger, t.there, t.tags)) (all_told conf base fits id);
          absent = λ id none. ap (λ (o : Option Item). read_history o (at_id base.items id)) none;
        };
        origins = origins_are conf base fits;
      };
      steps = both.0;
      numbers = both.1;
      order = in_order conf base fits;
      ordered = λ id. ordered conf base fits id (at_id conf.items id) (at_id base.items id) refl refl;
      types = λ id item there. types conf base fits id item there (at_id base.items id) refl;
      absent = λ id none. ap read_marks (none_same conf.items base.items id (sym fits.rows) none);
    }

pub fits_is_start : FitsIsStart
fits_is_start conf base distinct fits = record { distinct = distinct; origins = origins_are conf base fits; told = all_told conf base fits }
