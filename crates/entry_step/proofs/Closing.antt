-- What rules of global correlation close.
use Rattle.std.proofs.Common.{◌≡◌, ℕ, Bool, true, false, ◌&&◌, ◌⊎◌, inl, inr, Some, List, [], ◌∷◌, ◌++◌, map, filter, refl, sym, ◌∙◌, ap, subst}
use Rattle.std.specs.Prelude.{flat_map}
use Rattle.std.specs.Option.{unwrap_or}
use Rattle.zbx_types.specs.Ids.{at_id}
use Rattle.zbx_types.specs.Masters.{masters_of}
use Rattle.zbx_types.specs.Reach.{in_reach}
use Rattle.zbx_types.specs.Records.{event_of, tags_of}
use Rattle.zbx_types.specs.declared.conf.Conf.{Conf}
use Rattle.zbx_types.specs.declared.entries.Cause2.TheVariants as causes
use Rattle.zbx_types.specs.declared.entries.EventId.{EventId}
use Rattle.zbx_types.specs.declared.entries.Rec.{Rec}
use Rattle.zbx_types.specs.declared.rules.Rule.{Rule}
use Rattle.zbx_types.specs.declared.triggers.Trigger.{Trigger}
use Rattle.event_correlation.specs.Conditions.{matches}
use Rattle.event_correlation.specs.Closings.{closes_first, closed_from, closes_new, closes_of}
use Rattle.event_correlation.specs.Laws.{HasTagsOf, share_reach}
use Rattle.event_correlation.specs.declared.answer.Closes.{Closes}
use Rattle.event_correlation.proofs.LeftOut.{within_reach}
use Rattle.trigger_state.specs.Stages.{Stage, home}
use Rattle.trigger_state.specs.Problems.{event_in}
use Rattle.trigger_state.specs.declared.problems.Open.{Open}
use Rattle.entry_step.specs.Each.{Each}
use Rattle.entry_step.specs.Order.{by_event}
use Rattle.conf_index.specs.Order.{order}
use Rattle.entry_step.specs.Due.{by_making}
use Rattle.conf_index.specs.Index.{some_reaches}
use Rattle.entry_step.specs.Records.{closed_records, problems_open, ruled, ruled_records, begun_with, begun_records}
use Rattle.entry_step.specs.Represents.{AllAtHome, IsTagged, AllTagged}
use Rattle.entry_step.proofs.Members.{each_at, each_append, each_filter, each_map, each_all, each_both, each_sub, each_from, each_kept, filter_none, filter_map, filter_flat_map, flat_maps, flat_map_cong, or_false_left, or_false_right, true_or_false}
use Rattle.entry_step.proofs.Said.{each_flat_map}
use Rattle.entry_step.proofs.Sorting.{by_event_filter, by_event_each, by_event_map}

-- the open problems of all triggers are in the cells of their own triggers, and have the names of their tags
pub record AllTidy (stage : Stage) (all : ℕ → List Open) : Type 0 where
  pub homes : (id : ℕ) → AllAtHome stage id (all id)
  pub tagged : (id : ℕ) → AllTagged stage.conf id (all id)

-- the open problems agree at the triggers in K
abbrev pub AgreeOn : (ℕ → Bool) → (ℕ → List Open) → (ℕ → List Open) → Type 0
AgreeOn K p q = (id : ℕ) → K id ≡ true → p id ≡ q id

-- K has all triggers whose problems the evaluation of one may read or change: itself, its masters, and what shares a reach
-- with it
pub record Covers (conf : Conf) (K : ℕ → Bool) (id : ℕ) : Type 0 where
  pub self : K id ≡ true
  pub masters : Each (λ m. K m ≡ true) (masters_of conf id)
  pub reach : (one other : Trigger) (j : ℕ) → at_id conf.triggers id ≡ Some one → at_id conf.triggers j ≡ Some other → share_reach conf.correlations one other ≡ true → K j ≡ true

-- what holds of the problems of each trigger holds of all that are open, and of what closes of them
pub open_each : (Q : Rec → Type 0) (stage : Stage) (all : ℕ → List Open) → ((id : ℕ) → Each (λ o. Q o.problem) (all id)) → Each Q (problems_open stage all)
unfolding by_making
open_each Q stage all h = each_map Q (λ o. o.problem) (by_making stage all) (by_event_each stage event_in (λ o. Q o.problem) (flat_map all (order stage.conf)) (each_flat_map (λ o. Q o.problem) all (order stage.conf) h))

closed_each : (Q : Rec → Type 0) (m : Rule → Rec → Bool) (old : List Rec) (earlier rules : List Rule) → Each Q old → Each Q (closed_from m old earlier rules)
closed_each Q m old earlier [] h = tt
closed_each Q m old earlier (rule ∷ rest) h =
    each_append Q (filter (closes_first m earlier rule) old) (closed_from m old (earlier ++ rule ∷ []) rest) (each_kept Q (closes_first m earlier rule) old h) (closed_each Q m old (earlier ++ rule ∷ []) rest h)

old_each : (P : EventId → Type 0) (conf : Conf) (problem : Rec) (old : List Rec) → Each (λ r. P (event_of r)) old → Each P (closes_of conf problem old).old
old_each P conf problem old h =
    each_map P event_of (closed_from (matches conf problem) old [] conf.correlations) (closed_each (λ r. P (event_of r)) (matches conf problem) old [] conf.correlations h)

pub ruled_each : (P : EventId → Type 0) (stage : Stage) (problem : Rec) (all : ℕ → List Open) → ((id : ℕ) → Each (λ o. P (event_in o)) (all id)) → Each P (ruled stage problem all).old
unfolding ruled
ruled_each P stage problem all h = old_each P stage.conf problem (problems_open stage all) (open_each (λ r. P (event_of r)) stage all h)

-- Where no rule reaches a trigger, nothing closes for its problems
closed_none : (m : Rule → Rec → Bool) (earlier rules : List Rule) → closed_from m [] earlier rules ≡ []
closed_none m earlier [] = refl
closed_none m earlier (rule ∷ rest) = closed_none m (earlier ++ rule ∷ []) rest

new_none : (m : Rule → Rec → Bool) (rules : List Rule) → closes_new m [] rules ≡ false
new_none m [] = refl
new_none m (rule ∷ rest) = rw (off rule.close_new) (new_none m rest)
  where
    off : (b : Bool) → (b && false) ≡ false
    off true = refl
    off false = refl

abbrev pub no_closes : Closes
no_closes = record { old = []; new = false }

nothing_old : (conf : Conf) (problem : Rec) → closes_of conf problem [] ≡ no_closes
nothing_old conf problem =
    let make : List Rec → Bool → Closes = λ closed new. record { old = map event_of closed; new = new } in
    ap (λ closed. make closed (closes_new (matches conf problem) [] conf.correlations)) (closed_none (matches conf problem) [] conf.correlations) ∙ ap (make []) (new_none (matches conf problem) conf.correlations)

no_share : (rules : List Rule) (one other : Trigger) → some_reaches rules one ≡ false → share_reach rules one other ≡ false
no_share [] one other e = refl
no_share (rule ∷ rest) one other e =
    let here : in_reach rule one ≡ false = or_false_left (in_reach rule one) (some_reaches rest one) e in
    rw here (no_share rest one other (or_false_right (in_reach rule one) (some_reaches rest one) e))

pub nothing_ruled : (stage : Stage) (one : Trigger) (problem : Rec) (all : ℕ → List Open) → some_reaches stage.conf.correlations one ≡ false → HasTagsOf one problem → ruled stage problem all ≡ no_closes
unfolding ruled
nothing_ruled stage one problem all e tagged =
    within_reach stage.conf problem one old with_its tagged (each_all (λ r. HasTagsOf (with_its r) r) old (each_from (λ r. HasTagsOf (with_its r) r) old (λ r i. refl)))
    ∙ ap (closes_of stage.conf problem) (filter_none (λ r. share_reach stage.conf.correlations one (with_its r)) old (each_from (λ r. share_reach stage.conf.correlations one (with_its r) ≡ false) old (λ r i. no_share stage.conf.correlations one (with_its r) e)))
    ∙ nothing_old stage.conf problem
  where
    old : List Rec
    old = problems_open stage all

    with_its : Rec → Trigger
    with_its r = record one { tags = tags_of r }

-- what the code finds is what is open, in the order of making
pub open_found : (stage : Stage) (all : ℕ → List Open) → by_event stage event_of (flat_map (λ id. map (λ o. o.problem) (all id)) (order stage.conf)) ≡ problems_open stage all
unfolding by_making
open_found stage all =
    ap (by_event stage event_of) (flat_maps (λ (o : Open). o.problem) all (order stage.conf)) ∙ by_event_map stage (λ (o : Open). o.problem) event_of (flat_map all (order stage.conf))

-- and what is closed of it is what the rules close
pub ruled_is : (conf : Conf) (stage ready : Stage) (problem : Rec) (all : ℕ → List Open) (ids : List ℕ) (found sorted slice : List Rec) → conf ≡ ready.conf → stage ≡ ready → ids ≡ order ready.conf → found ≡ flat_map (λ id. map (λ o. o.problem) (all id)) ids
    → sorted ≡ by_event stage event_of found → slice ≡ sorted → closes_of conf problem slice ≡ ruled ready problem all
unfolding ruled
ruled_is conf stage ready problem all ids found sorted slice c at i f s a =
    ap (λ x. closes_of x problem slice) c
    ∙ ap (closes_of ready.conf problem)
    (a ∙ s ∙ ap (λ x. by_event x event_of found) at ∙ ap (by_event ready event_of) (f ∙ ap (flat_map (λ id. map (λ (o : Open). o.problem) (all id))) i) ∙ open_found ready all)

-- What rules close for a problem of a trigger is in the trigger's reach
abbrev its_trigger : Stage → Trigger → Rec → Trigger
its_trigger stage one r = unwrap_or (at_id stage.conf.triggers (home stage (event_of r))) one

abbrev shares : Stage → Trigger → Rec → Bool
shares stage one r = share_reach stage.conf.correlations one (its_trigger stage one r)

module _ (stage : Stage) (id : ℕ) (one : Trigger) (there : at_id stage.conf.triggers id ≡ Some one) where
  -- what follows from a problem's trigger
  tidy_at : (all : ℕ → List Open) → AllTidy stage all → (j : ℕ) (R : Rec → Type 0)
      → ((r : Rec) (other : Trigger) → home stage (event_of r) ≡ j → at_id stage.conf.triggers j ≡ Some other → its_trigger stage one r ≡ other → HasTagsOf other r → R r) → Each (λ o. R o.problem) (all j)
  tidy_at all tidy j R h =
      each_sub (λ o. (home stage (event_in o) ≡ j) × IsTagged stage.conf j o.problem) (λ o. R o.problem) (all j)
      (λ o both. h o.problem (both.1).0 both.0 (both.1).1 (ap (λ k. unwrap_or (at_id stage.conf.triggers k) one) both.0 ∙ ap (λ t. unwrap_or t one) (both.1).1) (both.1).2)
      (each_both (λ o. home stage (event_in o) ≡ j) (λ o. IsTagged stage.conf j o.problem) (all j) (tidy.homes j) (tidy.tagged j))

  module _ (problem : Rec) (tagged : HasTagsOf one problem) where
    ruled_kept : (all : ℕ → List Open) → AllTidy stage all → ruled stage problem all ≡ closes_of stage.conf problem (filter (shares stage one) (problems_open stage all))
    unfolding ruled
    ruled_kept all tidy =
        within_reach stage.conf problem one (problems_open stage all) (its_trigger stage one) tagged
        (each_all (λ r. HasTagsOf (its_trigger stage one r) r) (problems_open stage all)
        (open_each (λ r. HasTagsOf (its_trigger stage one r) r) stage all (λ j. tidy_at all tidy j (λ r. HasTagsOf (its_trigger stage one r) r) (λ r other h a e tags. subst (λ t. HasTagsOf t r) (sym e) tags))))

    module _ (K : ℕ → Bool) (covers : Covers stage.conf K id) where
      reached : (all : ℕ → List Open) → AllTidy stage all → (j : ℕ) → Each (λ o. shares stage one o.problem ≡ true → K j ≡ true) (all j)
      reached all tidy j = tidy_at all tidy j (λ r. shares stage one r ≡ true → K j ≡ true) (λ r other h a e tags s. covers.reach one other j there a (ap (share_reach stage.conf.correlations one) (sym e) ∙ s))

      pub events_in : (all : ℕ → List Open) → AllTidy stage all → Each (λ e. K (home stage e) ≡ true) (ruled stage problem all).old
      events_in all tidy =
          subst (λ c. Each (λ e. K (home stage e) ≡ true) c.old) (sym (ruled_kept all tidy))
          (old_each (λ e. K (home stage e) ≡ true) stage.conf problem (filter (shares stage one) (problems_open stage all))
          (each_filter (λ r. K (home stage (event_of r)) ≡ true) (shares stage one) (problems_open stage all) (λ r i s. each_at (λ x. shares stage one x ≡ true → K (home stage (event_of x)) ≡ true) (problems_open stage all) all_in r i s)))
        where
          all_in : Each (λ r. shares stage one r ≡ true → K (home stage (event_of r)) ≡ true) (problems_open stage all)
          all_in = open_each (λ r. shares stage one r ≡ true → K (home stage (event_of r)) ≡ true) stage all
              (λ j. tidy_at all tidy j (λ r. shares stage one r ≡ true → K (home stage (event_of r)) ≡ true)
              (λ r other h a e tags s. ap K h ∙ covers.reach one other j there a (ap (share_reach stage.conf.correlations one) (sym e) ∙ s)))

      -- over open problems that agree on K the same closes
      module _ (p q : ℕ → List Open) (tidy_p : AllTidy stage p) (tidy_q : AllTidy stage q) (agree : AgreeOn K p q) where
        none_shares : (all : ℕ → List Open) → AllTidy stage all → (j : ℕ) → K j ≡ false → filter (λ o. shares stage one o.problem) (all j) ≡ []
        none_shares all tidy j f =
            filter_none (λ o. shares stage one o.problem) (all j)
            (each_sub (λ o. shares stage one o.problem ≡ true → K j ≡ true) (λ o. shares stage one o.problem ≡ false) (all j) (λ o h. go (true_or_false (shares stage one o.problem)) h) (reached all tidy j))
          where
            go : {b : Bool} → (b ≡ true) ⊎ (b ≡ false) → (b ≡ true → K j ≡ true) → b ≡ false
            go (inl t) h = let s = h t in cc
            go (inr e) h = e

        same_at : (j : ℕ) → filter (λ o. shares stage one o.problem) (p j) ≡ filter (λ o. shares stage one o.problem) (q j)
        same_at j = go (true_or_false (K j))
          where
            go : (K j ≡ true) ⊎ (K j ≡ false) → filter (λ o. shares stage one o.problem) (p j) ≡ filter (λ o. shares stage one o.problem) (q j)
            go (inl t) = ap (filter (λ o. shares stage one o.problem)) (agree j t)
            go (inr f) = none_shares p tidy_p j f ∙ sym (none_shares q tidy_q j f)

        kept_open : (all : ℕ → List Open) → filter (shares stage one) (problems_open stage all) ≡ map (λ o. o.problem) (by_event stage event_in (flat_map (λ j. filter (λ o. shares stage one o.problem) (all j)) (order stage.conf)))
        unfolding by_making
        kept_open all =
            filter_map (shares stage one) (λ (o : Open). o.problem) (by_making stage all)
            ∙ ap (map (λ (o : Open). o.problem)) (by_event_filter stage event_in (λ o. shares stage one o.problem) (flat_map all (order stage.conf)))
            ∙ ap (λ os. map (λ (o : Open). o.problem) (by_event stage event_in os)) (filter_flat_map (λ o. shares stage one o.problem) all (order stage.conf))

        pub ruled_same : ruled stage problem p ≡ ruled stage problem q
        ruled_same =
            ruled_kept p tidy_p
            ∙ ap (closes_of stage.conf problem)
            (kept_open p
            ∙ ap (λ os. map (λ (o : Open). o.problem) (by_event stage event_in os))
            (flat_map_cong (λ j. filter (λ o. shares stage one o.problem) (p j)) (λ j. filter (λ o. shares stage one o.problem) (q j)) (order stage.conf) (each_from (λ j. filter (λ o. shares stage one o.problem) (p j) ≡ filter (λ o. shares stage one o.problem) (q j)) (order stage.conf) (λ j i. same_at j)))
            ∙ sym (kept_open q))
            ∙ sym (ruled_kept q tidy_q)

        closings_same : (number now : ℕ) (events : List EventId) → Each (λ e. K (home stage e) ≡ true) events → ruled_records stage number now p events ≡ ruled_records stage number now q events
        closings_same number now events h =
            flat_map_cong (λ e. closed_records stage.conf number now causes.Correlation (p (home stage e)) e) (λ e. closed_records stage.conf number now causes.Correlation (q (home stage e)) e) events
            (each_sub (λ e. K (home stage e) ≡ true) (λ e. closed_records stage.conf number now causes.Correlation (p (home stage e)) e ≡ closed_records stage.conf number now causes.Correlation (q (home stage e)) e) events
            (λ e k. ap (λ os. closed_records stage.conf number now causes.Correlation os e) (agree (home stage e) k)) h)

        pub begun_same : (number now : ℕ) → begun_records stage number now p id problem ≡ begun_records stage number now q id problem
        begun_same number now =
            ap (λ rs. problem ∷ rs ++ Rattle.entry_step.specs.Records.last_records stage.conf number now id problem (ruled stage problem p).new) (closings_same number now (ruled stage problem p).old (events_in p tidy_p))
            ∙ ap (λ c. begun_with stage number now q id problem c) ruled_same
