-- The start that a base is, is alike to what it was made of, whatever is told there of where events come from, as long as the
-- homes of the open problems and the order of making are the same.
use Rattle.std.proofs.Common.{◌≡◌, ◌≤◌, ℕ, true, Option, Some, None, List, [], ◌∷◌, map, option_map, nat_cmp, is_lt, flat_map, refl, sym, ◌∙◌, ap, ap₂, subst}
use Rattle.std.specs.Cmp.Lexicographic.{slice_cmp}
use Rattle.zbx_types.specs.Ids.{at_id}
use Rattle.zbx_types.specs.declared.entries.EventId.{EventId}
use Rattle.zbx_types.specs.declared.entries.Rec.{Rec}
use Rattle.zbx_types.specs.declared.entries.Rec.TheVariants.{Failure, Problem, Recovery, Step, Message}
use Rattle.zbx_types.specs.declared.entries.Stored.{Stored}
use Rattle.zbx_types.specs.declared.items.Item.{Item}
use Rattle.value_cache.specs.Cells.{trim}
use Rattle.value_cache.specs.Histories.{IsOrdered}
use Rattle.value_cache.specs.Keeps.{keep_of}
use Rattle.value_cache.specs.declared.keeping.Keep.{Keep}
use Rattle.value_cache.proofs.Pruning.{ordered_trim, trim_trim}
use Rattle.conf_index.specs.Order.{order}
use Rattle.trigger_state.specs.Problems.{event_in, action_of, is_before, open_of}
use Rattle.trigger_state.specs.Stages.{Stage, rank_of}
use Rattle.trigger_state.specs.declared.problems.Open.{Open}
use Rattle.trigger_state.specs.declared.stage.Origin.{Origin}
use Rattle.entry_step.specs.Cells.{look}
use Rattle.entry_step.specs.Due.{by_making}
use Rattle.entry_step.specs.Each.{Each, EachPair}
use Rattle.entry_step.specs.History.{marks_of}
use Rattle.entry_step.specs.Order.{sorted_by}
use Rattle.entry_step.specs.Represents.{AllAtHome, AllTagged, IsTagged}
use Rattle.entry_step.specs.Start.{Start}
use Rattle.entry_laws.specs.Rising.{IsUpTo, HaveSteps}
use Rattle.entry_step.proofs.Making.{OfProblem}
use Rattle.entry_step.proofs.Members.{each_both, each_from, each_map, each_sub, in_map}
use Rattle.entry_step.proofs.Sorting.{Rises, sorted_rises}
use Rattle.entry_laws.proofs.Runs.{open_has, Differ, making_differ, making_each}
use Rattle.base_laws.specs.Alike.{IsMadeBefore, unranked, IsOpen, AreAlike}
use Rattle.base_laws.specs.Bases.{told_ran, told_problem, read_history, read_marks, start_records, Beside, base_start, told_item, base_at}
use Rattle.base_laws.specs.Sound.{IsOfType, ComesFirst, IsSound}
use Rattle.base_laws.proofs.Again.{at_ids, steps_again, history_again, each_trim, trim_none}
use Rattle.base_laws.proofs.Alike.{open_is}
use Rattle.base_laws.proofs.Making.{pairs_sub, pairs_and, pairs_with, pairs_map, pairs_back, each_back}
use Rattle.base_laws.proofs.Opens.{events_unranked}
use Rattle.base_laws.proofs.Restart.{RunsBefore, Stands, Follows, stand}
use Rattle.base_laws.proofs.Retold.{IsOpened, all_opened, homes_kept, told_open}
use Rattle.base_laws.proofs.Steps.{Ordered}

of_upto : (n : ℕ) (r : Rec) → IsUpTo n r → OfProblem (λ v. v.number ≤ n) r
of_upto n (Problem event now severity suppressed host trigger name tags) u = u
of_upto n (Failure number host key why) u = tt
of_upto n (Recovery event by now cause) u = tt
of_upto n (Step event action step now) u = tt
of_upto n (Message event action step recipient subject body) u = tt

-- what is open up to a number
pub open_upto : (stage : Stage) (n : ℕ) (rs : List Rec) → Each (IsUpTo n) rs → (id : ℕ) → Each (λ o. (event_in o).number ≤ n) (open_of stage rs id)
open_upto stage n rs u id = open_has (λ v. v.number ≤ n) stage id rs (each_sub (IsUpTo n) (OfProblem (λ v. v.number ≤ n)) rs (of_upto n) u)

-- what holds of open problems holds of the same ones with other ranks
pub each_same : (P : Open → Type 0) (xs ys : List Open) → ((o : Open) → P o → P (unranked o)) → ((o : Open) → P (unranked o) → P o) → map unranked xs ≡ map unranked ys → Each P ys → Each P xs
each_same P xs ys to from same h =
    each_sub (λ o. P (unranked o)) P xs from (each_back P unranked xs (subst (Each P) (sym same) (each_map P unranked ys (each_sub P (λ o. P (unranked o)) ys to h))))

pub order_same : (R : EventId → EventId → Type 0) (xs ys : List Open) → map unranked xs ≡ map unranked ys → EachPair (λ o x. R (event_in o) (event_in x)) ys → EachPair (λ o x. R (event_in o) (event_in x)) xs
order_same R xs ys same h =
    pairs_back R event_in xs (subst (EachPair R) (sym (events_unranked ys) ∙ ap (map event_in) (sym same) ∙ events_unranked xs) (pairs_map R event_in ys h))

module _ (beside : Beside) (left : Start) (sound : IsSound left) (origins : List Origin) (upto : Each (λ (o : Origin). o.event.number ≤ left.number) origins)
    (homes : (id : ℕ) → AllAtHome (record { conf = left.stage.conf; origins = origins }) id (open_of left.stage left.records id))
    (order_too : (v w : EventId) → IsOpen (open_of left.stage left.records) v → IsOpen (open_of left.stage left.records) w → IsMadeBefore left.stage v w → IsMadeBefore (record { conf = left.stage.conf; origins = origins }) v w) where
  abbrev other : Stage
  other = record { conf = left.stage.conf; origins = origins }

  abbrev its : Start
  its = base_start other (base_at beside left)

  row_at : (id : ℕ) → at_id (base_at beside left).items id ≡ option_map (λ (item : Item). told_item left id) (at_id left.stage.conf.items id)
  unfolding base_at
  row_at id = at_ids (told_item left) left.stage.conf.items id

  same_marks : (id : ℕ) → its.marks id ≡ left.marks id
  same_marks id = ap read_marks (row_at id) ∙ go (at_id left.stage.conf.items id) refl
    where
      go : (o : Option Item) → at_id left.stage.conf.items id ≡ o → read_marks (option_map (λ (item : Item). told_item left id) o) ≡ left.marks id
      go None none = sym (sound.absent id none)
      go (Some item) there = steps_again (left.marks id)

  abbrev cut : ℕ → List Stored
  cut id = trim (keep_of left.stage.conf id) left.moment (left.histories id)

  no_history : (id : ℕ) → at_id left.stage.conf.items id ≡ None → left.histories id ≡ []
  unfolding look
  no_history id none = sound.good.tidy.absent id none

  pub same_history : (id : ℕ) → its.histories id ≡ cut id
  same_history id = ap (read_history (at_id left.stage.conf.items id)) (row_at id) ∙ go (at_id left.stage.conf.items id) refl
    where
      go : (o : Option Item) → at_id left.stage.conf.items id ≡ o → read_history o (option_map (λ (item : Item). told_item left id) o) ≡ cut id
      go None none = sym (ap (trim (keep_of left.stage.conf id) left.moment) (no_history id none) ∙ trim_none (keep_of left.stage.conf id) left.moment)
      go (Some item) there =
          history_again item.value_type (cut id)
          (each_trim (λ s. IsOfType item.value_type s.value) (keep_of left.stage.conf id) left.moment (left.histories id) (sound.types id item there))

  tagged : (id : ℕ) → AllTagged left.stage.conf id (open_of left.stage left.records id)
  unfolding look
  tagged id = sound.good.tidy.tagged id

  pub same_opens : (id : ℕ) → map unranked (open_of other its.records id) ≡ map unranked (open_of left.stage left.records id)
  unfolding base_at
  same_opens id = told_open left.stage other left.records tagged sound.order sound.steps.behind homes id

  item_alike : (keep : Keep) (now : ℕ) (h p : List Stored) → IsOrdered h → p ≡ trim keep now h → IsOrdered p × ((later : ℕ) → now ≤ later → trim keep later h ≡ trim keep later p)
  item_alike keep now h p o e = (
    subst IsOrdered (sym e) (ordered_trim keep now h o),
    λ later l. sym (ap (trim keep later) e ∙ trim_trim keep now later l h o),
  )

  pub is_alike : AreAlike left its
  unfolding base_at look marks_of
  is_alike = record {
    conf = refl;
    number = refl;
    moment = refl;
    cells = record {
      origins = sound.good.origins;
      origins_too = upto;
      items = λ id. record {
        marks = sym (same_marks id);
        ordered = sound.ordered id;
        ordered_too = (item_alike (keep_of left.stage.conf id) left.moment (left.histories id) (its.histories id) (sound.ordered id) (same_history id)).0;
        kept = (item_alike (keep_of left.stage.conf id) left.moment (left.histories id) (its.histories id) (sound.ordered id) (same_history id)).1;
      };
      opens = record {
        same = λ id. sym (same_opens id);
        homes = homes_kept left.stage left.records;
        homes_too = homes_kept other its.records;
        upto = open_is (λ v. v.number ≤ left.number) (open_of left.stage left.records) (open_upto left.stage left.number left.records sound.steps.upto);
        order = order_too;
      };
      tick = refl;
    };
  }

  abbrev opened : List Open
  opened = by_making left.stage (open_of left.stage left.records)

  made_in_order : EachPair (λ (o x : Open). (event_in o).number ≤ (event_in x).number) opened
  unfolding by_making
  made_in_order =
      let all : List Open = flat_map (open_of left.stage left.records) (order left.stage.conf) in
      in_order opened (sorted_rises (λ (o : Open). (event_in o).number) (sorted_by (λ o. rank_of left.stage (event_in o)) (sorted_by (λ (o : Open). (event_in o).trigger) all)))
    where
      in_order : (xs : List Open) → Rises (λ (o : Open). (event_in o).number) xs → EachPair (λ (o x : Open). (event_in o).number ≤ (event_in x).number) xs
      in_order [] r = tt
      in_order (x ∷ xs) r = (r.0, in_order xs r.1)

  ran_action : (r : Rec) → (told_ran r).action ≡ action_of r
  ran_action (Problem event now severity suppressed host trigger name tags) = refl
  ran_action (Failure number host key why) = refl
  ran_action (Recovery event by now cause) = refl
  ran_action (Step event action step now) = refl
  ran_action (Message event action step recipient subject body) = refl

  ran_before : (a b : Rec) → is_before a b ≡ true → RunsBefore (told_ran a) (told_ran b)
  ran_before a b h = ap₂ (λ x y. is_lt (slice_cmp nat_cmp x y)) (ran_action a) (ran_action b) ∙ h

  pub runs_in_order : (xs : List Rec) → Ordered xs → EachPair RunsBefore (map told_ran xs)
  runs_in_order xs o = pairs_map RunsBefore told_ran xs (pairs_sub (λ a b. is_before a b ≡ true) (λ a b. RunsBefore (told_ran a) (told_ran b)) xs ran_before o)

  pub all_stand : Each (Stands left.number) (map told_problem opened)
  all_stand =
      each_map (Stands left.number) told_problem opened
      (each_sub (λ o. IsOpened o × ((event_in o).number ≤ left.number)) (λ o. Stands left.number (told_problem o)) opened
      (λ o k. record { problem = k.0.problem; number = k.1; ran = runs_in_order o.steps k.0.ordered })
      (each_both IsOpened (λ o. (event_in o).number ≤ left.number) opened
      (making_each IsOpened left.stage (open_of left.stage left.records) (all_opened left.stage left.records))
      (making_each (λ o. (event_in o).number ≤ left.number) left.stage (open_of left.stage left.records) (open_upto left.stage left.number left.records sound.steps.upto))))

  pub all_follow : EachPair Follows (map told_problem opened)
  all_follow = pairs_map Follows told_problem opened (pairs_and (λ (o x : Open). (event_in o).number ≤ (event_in x).number) Differ opened made_in_order (making_differ left.stage left.records sound.steps.behind))

  told_stands : HaveSteps left.number (start_records (base_at beside left)) × EachPair ComesFirst (start_records (base_at beside left))
  unfolding base_at
  told_stands = stand left.number (map told_problem opened) all_stand all_follow

  pub is_sound : IsSound its
  unfolding base_at look
  is_sound = record {
    good = record {
      tidy = record {
        homes = homes_kept other its.records;
        tagged = λ id. each_same (λ o. IsTagged left.stage.conf id o.problem) (open_of other its.records id) (open_of left.stage left.records id) (λ o t. t) (λ o t. t) (same_opens id) (tagged id);
        absent = λ id none. ap (λ (o : Option Item). read_history o (at_id (base_at beside left).items id)) none;
      };
      origins = upto;
    };
    steps = told_stands.0;
    numbers = told_stands.1;
    order = λ id.
        order_same (IsMadeBefore other) (open_of other its.records id) (open_of left.stage left.records id) (same_opens id)
        (pairs_with (λ o. IsOpen (open_of left.stage left.records) (event_in o)) (λ o x. IsMadeBefore left.stage (event_in o) (event_in x)) (λ o x. IsMadeBefore other (event_in o) (event_in x)) (open_of left.stage left.records id)
        (λ o x i j h. order_too (event_in o) (event_in x) i j h) (each_from (λ o. IsOpen (open_of left.stage left.records) (event_in o)) (open_of left.stage left.records id) (λ o i. (id, in_map event_in (open_of left.stage left.records id) o i))) (sound.order id));
    ordered = λ id. subst IsOrdered (sym (same_history id)) (ordered_trim (keep_of left.stage.conf id) left.moment (left.histories id) (sound.ordered id));
    types = λ id item there. subst (Each (λ s. IsOfType item.value_type s.value)) (sym (same_history id))
        (each_trim (λ s. IsOfType item.value_type s.value) (keep_of left.stage.conf id) left.moment (left.histories id) (sound.types id item there));
    absent = λ id none. same_marks id ∙ sound.absent id none;
  }
