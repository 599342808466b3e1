-- What triggers do over open problems that are the same but for the ranks of their events.
use Rattle.std.proofs.Common.{◌≡◌, ℕ, Bool, true, false, cond, not, ◌&&◌, ◌||◌, Option, Some, None, List, [], ◌∷◌, ◌++◌, map, filter, refl, sym, ◌∙◌, ap, ap₂, subst, ℤ, pos}
use mathlib.Core.Path.{fun_ext}
use Rattle.std.specs.Prelude.{flat_map}
use Rattle.std.specs.List.{list_any}
use Rattle.std.specs.Ordering.{int_eq}
use Rattle.zbx_types.specs.Entries.{moment_of}
use Rattle.zbx_types.specs.Ids.{at_id}
use Rattle.zbx_types.specs.Masters.{masters_of}
use Rattle.zbx_types.specs.Records.{same_event, event_of}
use Rattle.zbx_types.specs.declared.conf.Conf.{Conf}
use Rattle.zbx_types.specs.declared.entries.Cause2.{Cause2}
use Rattle.zbx_types.specs.declared.entries.Cause2.TheVariants as causes
use Rattle.zbx_types.specs.declared.entries.Entry.{Entry}
use Rattle.zbx_types.specs.declared.entries.Entry.TheVariants.{Config, Value, Tick}
use Rattle.zbx_types.specs.declared.entries.EventId.{EventId}
use Rattle.zbx_types.specs.declared.entries.Held.{Held}
use Rattle.zbx_types.specs.declared.entries.Rec.{Rec}
use Rattle.zbx_types.specs.declared.entries.Rec.TheVariants.{Failure, Problem, Recovery, Step, Message}
use Rattle.zbx_types.specs.declared.entries.Stored.{Stored}
use Rattle.zbx_types.specs.declared.entries.Tag.{Tag}
use Rattle.zbx_types.specs.declared.triggers.Trigger.{Trigger}
use Rattle.escalations.specs.Escalations.{due_records_of, recovered_records}
use Rattle.event_correlation.specs.Closings.{closes_of}
use Rattle.event_text.specs.Titles.{event_tags}
use Rattle.conf_index.specs.Order.{order}
use Rattle.trigger_state.specs.Problems.{event_in, opens, grown}
use Rattle.trigger_state.specs.Stages.{Stage, OwnsEvents, home}
use Rattle.trigger_state.specs.Verdicts.{is_none, is_held, lets_close, is_closed_by, closing, close_all, verdict_by, verdict_of}
use Rattle.trigger_state.specs.declared.answer.Verdict.{Verdict}
use Rattle.trigger_state.specs.declared.answer.Verdict.TheVariants.{Nothing, New, Close}
use Rattle.trigger_state.specs.declared.problems.Open.{Open}
use Rattle.trigger_state.specs.declared.stage.Origin.{Origin}
use Rattle.entry_step.specs.Due.{by_making, due_for, due_over, due_at}
use Rattle.entry_step.specs.Each.{Each}
use Rattle.entry_step.specs.Occasions.{is_value, occasion_of}
use Rattle.entry_step.specs.Order.{by_event}
use Rattle.entry_step.specs.Records.{problem_of, recovery_of, closed_records, problems_open, ruled, last_records, begun_with, verdict_records, records_by, evaluated, phase}
use Rattle.conf_index.specs.Evaluation.{expression_value, recovery_value}
use Rattle.entry_step.specs.Represents.{AllAtHome}
use Rattle.entry_step.specs.Seen.{Seen, seen_in}
use Rattle.entry_step.proofs.Members.{any_elim, each_append, each_at, each_map, each_sub, filter_map, flat_map_cong, flat_maps}
use Rattle.entry_step.proofs.Problems.{each_open, home_all}
use Rattle.entry_step.proofs.Said.{each_flat_map}
use Rattle.entry_step.proofs.Sorting.{by_event_map, by_event_each}
use Rattle.entry_laws.proofs.Runs.{same_is}
use Rattle.base_laws.specs.Alike.{IsMadeBefore, unranked}
use Rattle.base_laws.proofs.Absorbing.{flat_over, map_over, all_same}
use Rattle.base_laws.proofs.Making.{same_order, each_back}
use Rattle.base_laws.proofs.Numbers.{OfEntry, evaluated_of}

-- What doesn't go by ranks
pub events_unranked : (os : List Open) → map event_in (map unranked os) ≡ map event_in os
events_unranked os = map_over event_in unranked os

none_unranked : (os : List Open) → is_none os ≡ is_none (map unranked os)
none_unranked [] = refl
none_unranked (o ∷ os) = refl

closing_unranked : (trigger : Trigger) (tags : List Tag) (os : List Open) → closing trigger tags os ≡ closing trigger tags (map unranked os)
closing_unranked trigger tags os =
    sym (events_unranked (filter (is_closed_by trigger.close_tag tags) os)) ∙ ap (map event_in) (sym (filter_map (is_closed_by trigger.close_tag tags) unranked os))

verdict_unranked : (t : Option Trigger) (held : Bool) (os : List Open) (p r : Option ℤ) (tags : List Tag) (is_value : Bool) → verdict_by t held os p r tags is_value ≡ verdict_by t held (map unranked os) p r tags is_value
verdict_unranked None held os p r tags is_value = refl
verdict_unranked (Some trigger) true os p r tags is_value = refl
verdict_unranked (Some trigger) false os None r tags is_value = refl
verdict_unranked (Some trigger) false os (Some z) r tags is_value =
    ap₂ (λ (es : List EventId) (none : Bool). cond (int_eq z (pos 0)) (cond (lets_close trigger.recovery r) (close_all es) Nothing) (cond (none || (trigger.multiple && is_value)) New Nothing))
    (closing_unranked trigger tags os) (none_unranked os)

-- the end of an event, over problems of one trigger
abbrev of : EventId → Open → Bool
of e o = same_event (event_in o) e

closed_by : (conf : Conf) (number now : ℕ) (cause : Cause2) (xs ys : List Open) (e : EventId) → map unranked (filter (of e) xs) ≡ map unranked (filter (of e) ys) → closed_records conf number now cause xs e ≡ closed_records conf number now cause ys e
closed_by conf number now cause xs ys e same =
    let sent : Open → List Rec = λ o. recovered_records conf o.problem o.steps now in
    ap (λ rs. recovery_of number now cause e ∷ rs)
    (sym (flat_over sent unranked (filter (of e) xs)) ∙ ap (flat_map sent) same ∙ flat_over sent unranked (filter (of e) ys))

same_kept : (p : Open → Bool) (unranks : (o : Open) → p (unranked o) ≡ p o) (xs ys : List Open) → map unranked xs ≡ map unranked ys → map unranked (filter p xs) ≡ map unranked (filter p ys)
same_kept p unranks xs ys same = kept xs ∙ ap (filter p) same ∙ sym (kept ys)
  where
    kept : (zs : List Open) → map unranked (filter p zs) ≡ filter p (map unranked zs)
    kept zs = ap (λ q. map unranked (filter q zs)) (fun_ext (λ o. sym (unranks o))) ∙ sym (filter_map p unranked zs)

same_any : (p : Open → Bool) (unranks : (o : Open) → p (unranked o) ≡ p o) (xs ys : List Open) → map unranked xs ≡ map unranked ys → list_any p xs ≡ list_any p ys
same_any p unranks xs ys same = told xs ∙ ap (list_any p) same ∙ sym (told ys)
  where
    told : (zs : List Open) → list_any p zs ≡ list_any p (map unranked zs)
    told [] = refl
    told (z ∷ zs) = ap₂ (λ a b. a || b) (sym (unranks z)) (told zs)

module _ (conf : Conf) (origins others : List Origin) (Q : EventId → Type 0) where
  abbrev one : Stage
  one = record { conf = conf; origins = origins }

  abbrev two : Stage
  two = record { conf = conf; origins = others }

  -- the problems that are open are the same but for ranks, each is at home, and these events are theirs
  pub record Like (xs ys : ℕ → List Open) : Type 0 where
    pub same : (id : ℕ) → map unranked (xs id) ≡ map unranked (ys id)
    pub homes : (id : ℕ) → AllAtHome one id (xs id)
    pub homes_too : (id : ℕ) → AllAtHome two id (ys id)
    pub within : (id : ℕ) → Each (λ o. Q (event_in o)) (xs id)

  -- with the records of an entry
  pub grown_like : (n : ℕ) → OwnsEvents one n → OwnsEvents two n → ((v : EventId) → v.number ≡ n → Q v) → (xs ys : ℕ → List Open) (rs : List Rec) → Each (OfEntry n) rs → Like xs ys → Like (grown one xs rs) (grown two ys rs)
  grown_like n own own_too new xs ys rs of like = record {
    same = λ id. all_same one two n own own_too id (xs id) (ys id) rs of (like.homes id) (like.homes_too id) (like.same id);
    homes = λ id. home_all one id (xs id) rs (like.homes id);
    homes_too = λ id. home_all two id (ys id) rs (like.homes_too id);
    within = λ id. each_open (λ r. Q (event_of r)) one id (xs id) rs (each_sub (OfEntry n) (λ r. opens one id r ≡ true → Q (event_of r)) rs (made id) of) (like.within id);
  }
    where
      made : (id : ℕ) (r : Rec) → OfEntry n r → opens one id r ≡ true → Q (event_of r)
      made id (Problem event now severity suppressed host trigger name tags) k q = new event k
      made id (Failure number host key why) k q = absurd (cc)
      made id (Recovery event by now cause) k q = absurd (cc)
      made id (Step event action step now) k q = absurd (cc)
      made id (Message event action step recipient subject body) k q = absurd (cc)

  module _ (agree : (v w : EventId) → Q v → Q w → IsMadeBefore one v w → IsMadeBefore two v w) (xs ys : ℕ → List Open) (like : Like xs ys) where
    all_of : map unranked (flat_map xs (order conf)) ≡ map unranked (flat_map ys (order conf))
    all_of = sym (flat_maps unranked xs (order conf)) ∙ ap (λ (f : ℕ → List Open). flat_map f (order conf)) (fun_ext like.same) ∙ flat_maps unranked ys (order conf)

    -- they were made in one order
    pub making_like : map unranked (by_making one xs) ≡ map unranked (by_making two ys)
    unfolding by_making
    making_like =
        sym (by_event_map one unranked event_in (flat_map xs (order conf)))
        ∙ same_order one two event_in Q agree (map unranked (flat_map xs (order conf)))
        (each_map (λ o. Q (event_in o)) unranked (flat_map xs (order conf)) (each_flat_map (λ o. Q (event_in o)) xs (order conf) like.within))
        ∙ ap (by_event two event_in) all_of ∙ by_event_map two unranked event_in (flat_map ys (order conf))

    problems_like : problems_open one xs ≡ problems_open two ys
    problems_like =
        sym (map_over (λ (o : Open). o.problem) unranked (by_making one xs)) ∙ ap (map (λ (o : Open). o.problem)) making_like ∙ map_over (λ (o : Open). o.problem) unranked (by_making two ys)

    -- an open problem has one home
    own_home : (id : ℕ) → Each (λ o. home one (event_in o) ≡ home two (event_in o)) (map unranked (xs id))
    own_home id =
        let second : Each (λ o. home two (event_in o) ≡ id) (map unranked (xs id)) = subst (Each (λ o. home two (event_in o) ≡ id)) (sym (like.same id)) (each_map (λ o. home two (event_in o) ≡ id) unranked (ys id) (like.homes_too id)) in
        both (map unranked (xs id)) (each_map (λ o. home one (event_in o) ≡ id) unranked (xs id) (like.homes id)) second
      where
        both : (os : List Open) → Each (λ o. home one (event_in o) ≡ id) os → Each (λ o. home two (event_in o) ≡ id) os → Each (λ o. home one (event_in o) ≡ home two (event_in o)) os
        both [] a b = tt
        both (o ∷ os) a b = (a.0 ∙ sym b.0, both os a.1 b.1)

    pub homes_like : Each (λ o. home one (event_in o) ≡ home two (event_in o)) (by_making one xs)
    unfolding by_making
    homes_like =
        by_event_each one event_in (λ o. home one (event_in o) ≡ home two (event_in o)) (flat_map xs (order conf))
        (each_flat_map (λ o. home one (event_in o) ≡ home two (event_in o)) xs (order conf) (λ id. each_back (λ o. home one (event_in o) ≡ home two (event_in o)) unranked (xs id) (own_home id)))

    -- the end of an event, at the home of its trigger
    at_home : (stage : Stage) (id : ℕ) (os : List Open) (e : EventId) → AllAtHome stage id os → list_any (of e) os ≡ true → home stage e ≡ id
    at_home stage id os e homes any =
        let w = any_elim (of e) os any in
        ap (home stage) (sym (same_is (event_in w.0) e w.2)) ∙ each_at (λ o. home stage (event_in o) ≡ id) os homes w.0 w.1

    nothing_of : (os : List Open) (e : EventId) → list_any (of e) os ≡ false → filter (of e) os ≡ []
    nothing_of [] e any = refl
    nothing_of (o ∷ os) e any = go (of e o) refl any (nothing_of os e)
      where
        go : (b : Bool) → of e o ≡ b → (b || list_any (of e) os) ≡ false → (list_any (of e) os ≡ false → filter (of e) os ≡ []) → cond b (o ∷ filter (of e) os) (filter (of e) os) ≡ []
        go true q f ih = absurd (cc)
        go false q f ih = ih f

    ends_like : (e : EventId) → map unranked (filter (of e) (xs (home one e))) ≡ map unranked (filter (of e) (ys (home two e)))
    ends_like e = first (list_any (of e) (xs h)) refl
      where
        h : ℕ
        h = home one e

        k : ℕ
        k = home two e

        any_at : (id : ℕ) → list_any (of e) (xs id) ≡ list_any (of e) (ys id)
        any_at id = same_any (of e) (λ o. refl) (xs id) (ys id) (like.same id)

        second : list_any (of e) (xs h) ≡ false → (b : Bool) → list_any (of e) (ys k) ≡ b → map unranked (filter (of e) (xs h)) ≡ map unranked (filter (of e) (ys k))
        second none true q =
            let t : list_any (of e) (xs k) ≡ true = any_at k ∙ q in
            let s : h ≡ k = at_home one k (xs k) e (like.homes k) t in
            absurd (let f : true ≡ false = sym t ∙ ap (λ i. list_any (of e) (xs i)) (sym s) ∙ none in cc)
        second none false q = ap (map unranked) (nothing_of (xs h) e none) ∙ sym (ap (map unranked) (nothing_of (ys k) e q))

        first : (b : Bool) → list_any (of e) (xs h) ≡ b → map unranked (filter (of e) (xs h)) ≡ map unranked (filter (of e) (ys k))
        first true q =
            let s : k ≡ h = at_home two h (ys h) e (like.homes_too h) (sym (any_at h) ∙ q) in
            same_kept (of e) (λ o. refl) (xs h) (ys h) (like.same h) ∙ ap (λ i. map unranked (filter (of e) (ys i))) (sym s)
        first false q = second q (list_any (of e) (ys k)) refl

    held_like : (id : ℕ) → is_held conf xs id ≡ is_held conf ys id
    held_like id = ap (λ (f : ℕ → Bool). list_any (λ m. not (f m)) (masters_of conf id)) (fun_ext (λ m. none_unranked (xs m) ∙ ap is_none (like.same m) ∙ sym (none_unranked (ys m))))

    verdict_like : (id : ℕ) (p r : Option ℤ) (tags : List Tag) (is_value : Bool) → verdict_of conf xs id p r tags is_value ≡ verdict_of conf ys id p r tags is_value
    verdict_like id p r tags is_value =
        ap (λ held. verdict_by (at_id conf.triggers id) held (xs id) p r tags is_value) (held_like id)
        ∙ verdict_unranked (at_id conf.triggers id) (is_held conf ys id) (xs id) p r tags is_value
        ∙ ap (λ os. verdict_by (at_id conf.triggers id) (is_held conf ys id) os p r tags is_value) (like.same id)
        ∙ sym (verdict_unranked (at_id conf.triggers id) (is_held conf ys id) (ys id) p r tags is_value)

    begun_like : (number now id : ℕ) (problem : Rec) → begun_with one number now xs id problem (ruled one problem xs) ≡ begun_with two number now ys id problem (ruled two problem ys)
    unfolding ruled
    begun_like number now id problem =
        ap (λ old. begun_with one number now xs id problem (closes_of conf problem old)) problems_like
        ∙ ap (λ (f : EventId → List Rec). problem ∷ flat_map f (closes_of conf problem (problems_open two ys)).old ++ last_records conf number now id problem (closes_of conf problem (problems_open two ys)).new)
        (fun_ext (λ e. closed_by conf number now causes.Correlation (xs (home one e)) (ys (home two e)) e (ends_like e)))

    records_like : (number now : ℕ) (values : List (Option Held)) (id : ℕ) (trigger : Trigger) (v : Verdict) → verdict_records one number now values id trigger xs v ≡ verdict_records two number now values id trigger ys v
    unfolding verdict_records
    records_like number now values id trigger Nothing = refl
    records_like number now values id trigger New = begun_like number now id (problem_of conf number now values id trigger)
    records_like number now values id trigger (Close events) =
        ap (λ (f : EventId → List Rec). flat_map f events) (fun_ext (λ e. closed_by conf number now causes.Expression (xs id) (ys id) e (same_kept (of e) (λ o. refl) (xs id) (ys id) (like.same id))))

    pub evaluated_like : (tick : Option ℕ) (number : ℕ) (entry : Entry) (items : ℕ → List Stored) (id : ℕ) → evaluated one (occasion_of tick number entry) items xs id ≡ evaluated two (occasion_of tick number entry) items ys id
    unfolding evaluated
    evaluated_like tick number entry items id = go (at_id conf.triggers id)
      where
        go : (t : Option Trigger) → records_by one (occasion_of tick number entry) items xs id t ≡ records_by two (occasion_of tick number entry) items ys id t
        go None = refl
        go (Some trigger) =
            let seen : Seen = seen_in items (occasion_of tick number entry) conf.utc_offset trigger in
            ap (verdict_records one number (moment_of entry) seen.values id trigger xs)
            (verdict_like id (expression_value seen.calls trigger.expr) (recovery_value seen.calls trigger.recovery_expr) (event_tags conf id seen.values) (is_value entry))
            ∙ records_like number (moment_of entry) seen.values id trigger
            (verdict_of conf ys id (expression_value seen.calls trigger.expr) (recovery_value seen.calls trigger.recovery_expr) (event_tags conf id seen.values) (is_value entry))

    -- the steps that are due
    over_like : (now : ℕ) → due_over one now xs ≡ due_over two now ys
    unfolding due_over
    over_like now =
        flat_map_cong (due_for one now) (due_for two now) (by_making one xs) (each_sub (λ o. home one (event_in o) ≡ home two (event_in o)) (λ o. due_for one now o ≡ due_for two now o) (by_making one xs) (λ o h. due_at_home now o h) homes_like)
        ∙ sym (flat_over (due_for two now) unranked (by_making one xs)) ∙ ap (flat_map (due_for two now)) making_like ∙ flat_over (due_for two now) unranked (by_making two ys)
      where
        due_at_home : (now : ℕ) (o : Open) → home one (event_in o) ≡ home two (event_in o) → due_for one now o ≡ due_for two now o
        due_at_home now o h = ap (λ (i : ℕ). due_records_of conf i o.problem o.steps now) h

    pub due_like : (entry : Entry) → due_at one entry xs ≡ due_at two entry ys
    unfolding due_at
    due_like (Config now text) = refl
    due_like (Value now item time value) = refl
    due_like (Tick now) = over_like now

  -- triggers one after another
  pub phase_like : (agree : (v w : EventId) → Q v → Q w → IsMadeBefore one v w → IsMadeBefore two v w) (tick : Option ℕ) (number : ℕ) (entry : Entry) (items : ℕ → List Stored) → OwnsEvents one number → OwnsEvents two number → ((v : EventId) → v.number ≡ number → Q v) → (ids : List ℕ) (xs ys : ℕ → List Open) → Like xs ys
      → phase one (evaluated one (occasion_of tick number entry) items) xs ids ≡ phase two (evaluated two (occasion_of tick number entry) items) ys ids
  phase_like agree tick number entry items own own_too new [] xs ys like = refl
  phase_like agree tick number entry items own own_too new (id ∷ ids) xs ys like =
      let made : List Rec = evaluated one (occasion_of tick number entry) items xs id in
      let same : made ≡ evaluated two (occasion_of tick number entry) items ys id = evaluated_like agree xs ys like tick number entry items id in
      ap₂ (λ rs more. rs ++ more) same
      (phase_like agree tick number entry items own own_too new ids (grown one xs made) (grown two ys made) (grown_like number own own_too new xs ys made (evaluated_of one tick number entry items xs id) like)
      ∙ ap (λ rs. phase two (evaluated two (occasion_of tick number entry) items) (grown two ys rs) ids) same)

  pub phase_of_entry : (tick : Option ℕ) (number : ℕ) (entry : Entry) (items : ℕ → List Stored) (ids : List ℕ) (xs : ℕ → List Open) → Each (OfEntry number) (phase one (evaluated one (occasion_of tick number entry) items) xs ids)
  phase_of_entry tick number entry items [] xs = tt
  phase_of_entry tick number entry items (id ∷ ids) xs =
      let made : List Rec = evaluated one (occasion_of tick number entry) items xs id in
      each_append (OfEntry number) made (phase one (evaluated one (occasion_of tick number entry) items) (grown one xs made) ids) (evaluated_of one tick number entry items xs id) (phase_of_entry tick number entry items ids (grown one xs made))
