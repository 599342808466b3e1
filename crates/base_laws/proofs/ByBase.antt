-- What a base tells by itself of what it was made of.
use Rattle.std.proofs.Common.{◌≡◌, ◌≤◌, ◌<◌, ◌==◌, ℕ, Bool, true, false, cond, inl, inr, List, [], ◌∷◌, map, filter, flat_map, refl, sym, ◌∙◌, ap, ap₂, subst}
use Rattle.std.specs.Option.{unwrap_or}
use Rattle.zbx_types.specs.Records.{event_of}
use Rattle.zbx_types.specs.declared.base.BaseProblem.{BaseProblem}
use Rattle.zbx_types.specs.declared.entries.EventId.{EventId}
use Rattle.conf_index.specs.Order.{order}
use Rattle.trigger_state.specs.Problems.{event_in, open_of}
use Rattle.trigger_state.specs.Stages.{Stage, id_named, home, rank_of}
use Rattle.trigger_state.specs.declared.problems.Open.{Open}
use Rattle.trigger_state.specs.declared.stage.Origin.{Origin}
use Rattle.entry_step.specs.Cells.{look}
use Rattle.entry_step.specs.Due.{by_making}
use Rattle.entry_step.specs.Each.{Each, In, EachPair}
use Rattle.entry_step.specs.Named.{AreDistinct}
use Rattle.entry_step.specs.Represents.{AllAtHome, AllTagged}
use Rattle.entry_step.specs.Start.{Start}
use Rattle.entry_step.specs.Whole.{IsTold, AreTold, FitsStart}
use Rattle.entry_step.proofs.Finding.{named_is}
use Rattle.entry_step.proofs.Members.{each_kept, each_map}
use Rattle.entry_laws.proofs.Runs.{making_differ, making_each}
use Rattle.base_laws.specs.Alike.{IsMadeBefore, IsOpen, AreAlike}
use Rattle.base_laws.specs.Bases.{told_problem, Beside, base_stage, told_start, base_at, told_problems}
use Rattle.base_laws.specs.FitsBase.{trigger_by_names}
use Rattle.base_laws.specs.Sound.{AreInOrder, IsSound}
use Rattle.base_laws.proofs.Making.{pairs_sub, pairs_and, pairs_map, pairs_back, each_back, self_before, both_before, made_in_order, agree_in_list}
use Rattle.base_laws.proofs.Places.{AreApart, homes_by_names, rise_by_place, origins_upto}
use Rattle.base_laws.proofs.Retold.{kept}
use Rattle.base_laws.proofs.Told.{each_same, open_upto, same_opens, is_alike, is_sound}

event_kept : (p : Open → Bool) (v : EventId) (xs : List Open) → In v (map event_in (filter p xs)) → In v (map event_in xs)
event_kept p v [] i = i
event_kept p v (x ∷ xs) i = go (p x) i (event_kept p v xs)
  where
    go : (b : Bool) → In v (map event_in (cond b (x ∷ filter p xs) (filter p xs))) → (In v (map event_in (filter p xs)) → In v (map event_in xs)) → In v (event_in x ∷ map event_in xs)
    go true (inl e) ih = inl e
    go true (inr j) ih = inr (ih j)
    go false j ih = inr (ih j)

module _ (beside : Beside) (left : Start) (sound : IsSound left) (distinct : AreDistinct left.stage.conf) (told : AreTold left.stage left.number left.records) where
  abbrev all : List Open
  all = by_making left.stage (open_of left.stage left.records)

  abbrev origins : List Origin
  origins = (base_stage left.stage.conf (base_at beside left)).origins

  abbrev other : Stage
  other = record { conf = left.stage.conf; origins = origins }

  tagged : (id : ℕ) → AllTagged left.stage.conf id (open_of left.stage left.records id)
  unfolding look
  tagged id = sound.good.tidy.tagged id

  -- what is open of a trigger is part of all
  part : (id : ℕ) → filter (λ o. home left.stage (event_in o) == id) all ≡ open_of left.stage left.records id
  part id = kept left.stage left.records tagged sound.order id

  each_part : (P : Open → Type 0) → Each P all → (id : ℕ) → Each P (open_of left.stage left.records id)
  each_part P h id = subst (Each P) (part id) (each_kept P (λ o. home left.stage (event_in o) == id) all h)

  in_all : (v : EventId) → IsOpen (open_of left.stage left.records) v → In v (map event_in all)
  in_all v i = event_kept (λ o. home left.stage (event_in o) == i.0) v all (subst (λ os. In v (map event_in os)) (sym (part i.0)) i.1)

  apart : EachPair AreApart (base_at beside left).problems
  unfolding base_at
  apart = pairs_map AreApart told_problem all (making_differ left.stage left.records sound.steps.behind)

  -- homes by names
  named : Each (λ o. home other (event_in o) ≡ trigger_by_names left.stage.conf o.problem) all
  unfolding base_at
  named = each_back (λ (p : BaseProblem). home other (event_of p.problem) ≡ trigger_by_names left.stage.conf p.problem) told_problem all (homes_by_names left.stage.conf (base_at beside left) apart)

  homes : (id : ℕ) → AllAtHome other id (open_of left.stage left.records id)
  homes id = both (open_of left.stage left.records id) (each_part (λ o. home other (event_in o) ≡ trigger_by_names left.stage.conf o.problem) named id) (told id)
    where
      own : (o : Open) → IsTold left.stage.conf left.number id o.problem → trigger_by_names left.stage.conf o.problem ≡ id
      own o t = ap (λ k. unwrap_or k 0) (ap₂ (id_named left.stage.conf) t.host t.name ∙ named_is left.stage.conf distinct id t.trigger t.there)

      both : (os : List Open) → Each (λ o. home other (event_in o) ≡ trigger_by_names left.stage.conf o.problem) os → Each (λ o. IsTold left.stage.conf left.number id o.problem) os → AllAtHome other id os
      both [] a b = tt
      both (o ∷ os) a b = (a.0 ∙ own o b.0, both os a.1 b.1)

  -- the order of making
  abbrev Ranks : Open → Open → Type 0
  Ranks o x = rank_of other (event_in o) < rank_of other (event_in x)

  ranks : EachPair Ranks all
  unfolding base_at
  ranks = pairs_back (λ (p q : BaseProblem). rank_of other (event_of p.problem) < rank_of other (event_of q.problem)) told_problem all (rise_by_place left.stage.conf (base_at beside left) apart)

  before : AreInOrder left.stage all
  unfolding by_making
  before = made_in_order left.stage event_in (flat_map (open_of left.stage left.records) (order left.stage.conf))

  behind : AreInOrder other all
  behind =
      pairs_sub (λ o x. IsMadeBefore left.stage (event_in o) (event_in x) × Ranks o x) (λ o x. IsMadeBefore other (event_in o) (event_in x)) all one
      (pairs_and (λ o x. IsMadeBefore left.stage (event_in o) (event_in x)) Ranks all before ranks)
    where
      one : (o x : Open) → IsMadeBefore left.stage (event_in o) (event_in x) × Ranks o x → IsMadeBefore other (event_in o) (event_in x)
      one o x (inl l, r) = inl l
      one o x (inr n, r) = inr (n.0, inl r)

  same_order : (v w : EventId) → IsOpen (open_of left.stage left.records) v → IsOpen (open_of left.stage left.records) w → IsMadeBefore left.stage v w → IsMadeBefore other v w
  same_order v w i j h =
      agree_in_list (IsMadeBefore left.stage) (IsMadeBefore other) (both_before left.stage) (self_before other) (map event_in all)
      (pairs_map (IsMadeBefore left.stage) event_in all before) (pairs_map (IsMadeBefore other) event_in all behind) v w (in_all v i) (in_all w j) h

  upto : Each (λ (o : Origin). o.event.number ≤ left.number) origins
  unfolding base_at
  upto =
      origins_upto left.number 0 (told_problems left)
      (each_map (λ (p : BaseProblem). (event_of p.problem).number ≤ left.number) told_problem all
      (making_each (λ o. (event_in o).number ≤ left.number) left.stage (open_of left.stage left.records) (open_upto left.stage left.number left.records sound.steps.upto)))

  pub its_alike : AreAlike left (told_start left.stage.conf (base_at beside left))
  its_alike = is_alike beside left sound origins upto homes same_order

  pub its_sound : IsSound (told_start left.stage.conf (base_at beside left))
  its_sound = is_sound beside left sound origins upto homes same_order

  number_same : (base_at beside left).number ≡ left.number
  unfolding base_at
  number_same = refl

  pub its_fits : FitsStart (told_start left.stage.conf (base_at beside left))
  its_fits = record {
    distinct = distinct;
    origins = subst (λ n. Each (λ (o : Origin). o.event.number ≤ n) origins) (sym number_same) upto;
    told = λ id. subst (λ n. Each (λ o. IsTold left.stage.conf n id o.problem) (open_of other (told_start left.stage.conf (base_at beside left)).records id)) (sym number_same)
        (each_same (λ o. IsTold left.stage.conf left.number id o.problem) (open_of other (told_start left.stage.conf (base_at beside left)).records id) (open_of left.stage left.records id) (λ o t. t) (λ o t. t) (same_opens beside left sound origins upto homes same_order id) (told id));
  }
