-- Steps of an action rise, each by one.
use Rattle.std.proofs.Common.{◌≡◌, ℕ, ◌+◌, ◌<◌, ◌==◌, Bool, true, false, ◌&&◌, ◌⊎◌, inl, inr, Option, Some, None, List, [], ◌∷◌, ◌++◌, refl, sym, ◌∙◌, ap, subst, append_assoc, append-nil, ne_eqb, arith}
use Rattle.std.specs.Prelude.{flat_map, filter_map, option_to_list}
use Rattle.std.specs.List.{reduce, last_or}
use Rattle.std.specs.List.Sorted.{IsStrictlyIncreasing}
use Rattle.zbx_types.specs.Ids.{at_id}
use Rattle.zbx_types.specs.Records.{same_event, event_of}
use Rattle.zbx_types.specs.declared.triggers.Trigger.{Trigger}
use Rattle.zbx_types.specs.Entries.{moment_of}
use Rattle.zbx_types.specs.declared.entries.Entry.{Entry}
use Rattle.zbx_types.specs.declared.entries.Entry.TheVariants.{Config, Value, Tick}
use Rattle.zbx_types.specs.declared.entries.Cause2.TheVariants as causes
use Rattle.zbx_types.specs.declared.entries.EventId.{EventId}
use Rattle.zbx_types.specs.declared.entries.Held.{Held}
use Rattle.zbx_types.specs.declared.entries.Numbered.{Numbered}
use Rattle.zbx_types.specs.declared.entries.Rec.{Rec}
use Rattle.zbx_types.specs.declared.entries.Rec.TheVariants.{Failure, Problem, Recovery, Step, Message}
use Rattle.zbx_types.specs.declared.entries.Stored.{Stored}
use Rattle.event_correlation.specs.declared.answer.Closes.{Closes}
use Rattle.escalations.specs.Escalations.{first_records_of}
use Rattle.escalations.specs.Laws.{KeepsLast}
use Rattle.escalations.specs.Steps.{ran_of, later, number_behind, last_step}
use Rattle.trigger_state.specs.Stages.{Stage, home}
use Rattle.trigger_state.specs.Problems.{event_in, open_of}
use Rattle.trigger_state.specs.Verdicts.{is_held}
use Rattle.trigger_state.specs.declared.answer.Verdict.{Verdict}
use Rattle.trigger_state.specs.declared.answer.Verdict.TheVariants.{Nothing, New, Close}
use Rattle.trigger_state.specs.declared.problems.Open.{Open}
use Rattle.entry_step.specs.Due.{IsAbout, by_making, due_for, due_over, due_at}
use Rattle.entry_step.specs.Each.{Each, In, EachPair}
use Rattle.entry_step.specs.History.{memory_of, history_of}
use Rattle.entry_step.specs.Log.{last_number, first_tick, IsRising}
use Rattle.entry_step.specs.Occasions.{occasion_of}
use Rattle.entry_step.specs.Records.{problem_of, ruled, ruled_records, last_records, begun_records, closed_records, verdict_records, evaluated, phase_over, triggers_at, failures_at, judged_of, out_of, replay}
use Rattle.entry_laws.specs.Rising.{step_of, steps_run, Count, AreNext, is_of, StandsBehind, IsUpTo, HaveSteps, HaveOwnNames, StepsRise, FreshHasSteps}
use Rattle.entry_step.specs.Seen.{shown_values, seen_in}
use Rattle.entry_step.specs.Start.{Start}
use Rattle.entry_step.proofs.Landing.{judged_is, judged_has, evaluated_none}
use Rattle.entry_step.proofs.Making.{Once, OfProblem}
use Rattle.entry_step.proofs.Members.{each_append, each_sub}
use Rattle.entry_step.proofs.Replays.{once_triggers}
use Rattle.entry_laws.proofs.Runs.{Rise, GoOn, KeptAs, Differ, AtMost, IsPlain, same_is, next_from, last_number_is, increasing, numbers_are, runs_append, runs_none, next_all, next_append, is_none, kept_all, open_has, making_differ, making_each, at_most_counts, plain_runs, closed_plain, failures_plain, due_own, due_other}
use Rattle.entry_step.proofs.Said.{each_flat_map, due_about, IsQuiet, about_quiet, begun_quiet}

-- A Problem or a step of an earlier entry, or of a trigger that is done
abbrev Made : ℕ → List ℕ → EventId → Type 0
Made n done event = (event.number < n) ⊎ ((event.number ≡ n) × In event.trigger done)

abbrev IsMade : ℕ → List ℕ → Rec → Type 0
IsMade n done (Problem event now severity suppressed host trigger name tags) = Made n done event
IsMade n done (Step event action step now) = Made n done event
IsMade n done (Failure number host key why) = Unit {0}
IsMade n done (Recovery event by now cause) = Unit {0}
IsMade n done (Message event action step recipient subject body) = Unit {0}

record Fine (n : ℕ) (done : List ℕ) (rs : List Rec) : Type 0 where
  made : Each (IsMade n done) rs
  behind : EachPair StandsBehind rs
  rise : Rise rs

abbrev Adds : ℕ → List ℕ → List Rec → List Rec → Type 0
Adds n done rs new = AreNext rs new × Fine n done (rs ++ new)

made_sub : (n m : ℕ) (a b : List ℕ) → ((event : EventId) → Made n a event → Made m b event) → (r : Rec) → IsMade n a r → IsMade m b r
made_sub n m a b h (Problem event now severity suppressed host trigger name tags) d = h event d
made_sub n m a b h (Step event action step now) d = h event d
made_sub n m a b h (Failure number host key why) d = tt
made_sub n m a b h (Recovery event by now cause) d = tt
made_sub n m a b h (Message event action step recipient subject body) d = tt

fine_sub : (n m : ℕ) (a b : List ℕ) (rs : List Rec) → ((event : EventId) → Made n a event → Made m b event) → Fine n a rs → Fine m b rs
fine_sub n m a b rs h f = record { made = each_sub (IsMade n a) (IsMade m b) rs (made_sub n m a b h) f.made; behind = f.behind; rise = f.rise }

made_more : (n : ℕ) (done : List ℕ) (id : ℕ) (event : EventId) → Made n done event → Made n (id ∷ done) event
made_more n done id event (inl l) = inl l
made_more n done id event (inr d) = inr (d.0, inr d.1)

pairs_both : (xs ys : List Rec) → EachPair StandsBehind xs → EachPair StandsBehind ys → Each (λ x. Each (StandsBehind x) ys) xs → EachPair StandsBehind (xs ++ ys)
pairs_both [] ys a b c = b
pairs_both (x ∷ xs) ys a b c = (each_append (StandsBehind x) xs ys a.0 c.0, pairs_both xs ys a.1 b c.1)

add : (n : ℕ) (done : List ℕ) (rs new : List Rec) → Fine n done rs → Each (IsMade n done) new → EachPair StandsBehind new → Each (λ x. Each (StandsBehind x) new) rs → GoOn rs new → Adds n done rs new
add n done rs new f m p c on =
    let next = next_all rs new f.rise on in
    (next.0, record { made = each_append (IsMade n done) rs new f.made m; behind = pairs_both rs new f.behind p c; rise = next.1 })

-- no Problem stands behind
quiet_behind : (r : Rec) (qs : List Rec) → Each IsQuiet qs → Each (StandsBehind r) qs
quiet_behind r qs e = each_sub IsQuiet (StandsBehind r) qs go e
  where
    go : (x : Rec) → IsQuiet x → StandsBehind r x
    go (Problem event now severity suppressed host trigger name tags) q = absurd q
    go (Recovery event by now cause) q = tt
    go (Failure number host key why) q = tt
    go (Step event action step now) q = tt
    go (Message event action step recipient subject body) q = tt

quiet_pairs : (qs : List Rec) → Each IsQuiet qs → EachPair StandsBehind qs
quiet_pairs [] e = tt
quiet_pairs (q ∷ qs) e = (quiet_behind q qs e.1, quiet_pairs qs e.1)

quiet_all : (xs qs : List Rec) → Each IsQuiet qs → Each (λ x. Each (StandsBehind x) qs) xs
quiet_all [] qs e = tt
quiet_all (x ∷ xs) qs e = (quiet_behind x qs e, quiet_all xs qs e)

plain_quiet : (rs : List Rec) → Each IsPlain rs → Each IsQuiet rs
plain_quiet rs e = each_sub IsPlain IsQuiet rs go e
  where
    go : (x : Rec) → IsPlain x → IsQuiet x
    go (Problem event now severity suppressed host trigger name tags) q = absurd q
    go (Step event action step now) q = absurd q
    go (Recovery event by now cause) q = tt
    go (Failure number host key why) q = tt
    go (Message event action step recipient subject body) q = tt

plain_made : (n : ℕ) (done : List ℕ) (rs : List Rec) → Each IsPlain rs → Each (IsMade n done) rs
plain_made n done rs e = each_sub IsPlain (IsMade n done) rs go e
  where
    go : (x : Rec) → IsPlain x → IsMade n done x
    go (Problem event now severity suppressed host trigger name tags) q = absurd q
    go (Step event action step now) q = absurd q
    go (Recovery event by now cause) q = tt
    go (Failure number host key why) q = tt
    go (Message event action step recipient subject body) q = tt

about_made : (e : EventId) (n : ℕ) (done : List ℕ) (rs : List Rec) → Made n done e → Each (IsAbout e) rs → Each (IsMade n done) rs
about_made e n done rs m a = each_sub (IsAbout e) (IsMade n done) rs go a
  where
    go : (x : Rec) → IsAbout e x → IsMade n done x
    go (Step event action step now) is = subst (Made n done) (sym is) m
    go (Message event action step recipient subject body) is = tt
    go (Failure number host key why) is = absurd is
    go (Problem event now severity suppressed host trigger name tags) is = absurd is
    go (Recovery event by now cause) is = absurd is

add_quiet : (n : ℕ) (done : List ℕ) (rs new : List Rec) → Fine n done rs → Each IsQuiet new → Each (IsMade n done) new → GoOn rs new → Adds n done rs new
add_quiet n done rs new f q m on = add n done rs new f m (quiet_pairs new q) (quiet_all rs new q) on

add_plain : (n : ℕ) (done : List ℕ) (rs new : List Rec) → Fine n done rs → Each IsPlain new → Adds n done rs new
add_plain n done rs new f p =
    add_quiet n done rs new f (plain_quiet new p) (plain_made n done new p) (λ e a. subst (Count (next_from 1 (steps_run e a rs))) (sym (plain_runs e a new p)) tt)

add_none : (n : ℕ) (done : List ℕ) (rs : List Rec) → Fine n done rs → Adds n done rs []
add_none n done rs f = add_plain n done rs [] f tt

add_both : (n : ℕ) (done more : List ℕ) (rs xs ys : List Rec) → Adds n done rs xs → Adds n more (rs ++ xs) ys → Adds n more rs (xs ++ ys)
add_both n done more rs xs ys a b = (next_append rs xs ys a.0 b.0, subst (Fine n more) (append_assoc rs xs ys) b.1)

-- Nothing is of a new problem's event
none_of : (n id : ℕ) (done : List ℕ) → (In id done → ⊥) → (r : Rec) → IsMade n done r → is_of (record { number = n; trigger = id }) r ≡ false
none_of n id done out r d = go r d
  where
    other : (event : EventId) → Made n done event → same_event (record { number = n; trigger = id }) event ≡ false
    other event (inl l) = ap (λ b. b && (id == event.trigger)) (ne_eqb n event.number (λ q. absurd (omega arith)))
    other event (inr k) = ap (λ b. (n == event.number) && b) (ne_eqb id event.trigger (λ q. out (subst (λ t. In t done) (sym q) k.1))) ∙ off (n == event.number)
      where
        off : (b : Bool) → (b && false) ≡ false
        off true = refl
        off false = refl

    go : (x : Rec) → IsMade n done x → is_of (record { number = n; trigger = id }) x ≡ false
    go (Problem event now severity suppressed host trigger name tags) m = other event m
    go (Step event action step now) m = other event m
    go (Failure number host key why) m = refl
    go (Recovery event by now cause) m = refl
    go (Message event action step recipient subject body) m = refl

-- What a trigger adds
module _ (stage : Stage) (own : HaveOwnNames stage.conf.actions) (tick : Option ℕ) (number : ℕ) (entry : Entry) (items : ℕ → List Stored) (done : List ℕ) (id : ℕ) (rs : List Rec) (fine : Fine number done rs) (out : In id done → ⊥) where
  abbrev n : ℕ
  n = number

  abbrev now : ℕ
  now = moment_of entry

  abbrev event : EventId
  event = record { number = number; trigger = id }

  abbrev Next : List Rec → Type 0
  Next new = Adds number (id ∷ done) rs new

  weaker : Fine n (id ∷ done) rs
  weaker = fine_sub n n done (id ∷ done) rs (λ v d. made_more n done id v d) fine

  of_none : Each (λ r. is_of event r ≡ false) rs
  of_none = each_sub (IsMade n done) (λ r. is_of event r ≡ false) rs (λ r d. none_of n id done out r d) fine.made

  last_made : (problem : Rec) (is_closed : Bool) → event_of problem ≡ event → Each (IsMade n (id ∷ done)) (last_records stage.conf n now id problem is_closed)
  last_made problem true q = (tt, tt)
  last_made problem false q = about_made (event_of problem) n (id ∷ done) (first_records_of stage.conf id problem now) (subst (Made n (id ∷ done)) (sym q) (inr (refl, inl refl))) (due_about stage.conf id problem [] now)

  last_follows : (problem : Rec) (is_closed : Bool) → event_of problem ≡ event → (e : EventId) (a : List ℕ) → Count (next_from 1 (steps_run e a rs)) (steps_run e a (last_records stage.conf n now id problem is_closed))
  last_follows problem true q e a = tt
  last_follows problem false q e a = go (same_event e (event_of problem)) refl
    where
      go : (b : Bool) → same_event e (event_of problem) ≡ b → Count (next_from 1 (steps_run e a rs)) (steps_run e a (first_records_of stage.conf id problem now))
      go true s =
          let is : e ≡ event = same_is e (event_of problem) s ∙ q in
          let none : steps_run e a rs ≡ [] = ap (λ v. steps_run v a rs) is ∙ runs_none event a rs (each_sub (λ r. is_of event r ≡ false) (λ r. step_of event a r ≡ None) rs (λ r h. is_none event a r h) of_none) in
          subst (λ xs. Count (next_from 1 xs) (steps_run e a (first_records_of stage.conf id problem now))) (sym none) (at_most_counts 1 (steps_run e a (first_records_of stage.conf id problem now)) (due_own stage.conf problem [] now e a id own s))
      go false s = subst (Count (next_from 1 (steps_run e a rs))) (sym (due_other stage.conf problem [] now e a id s)) tt

  begin_next : (values : List (Option Held)) (t : Trigger) (all : ℕ → List Open) → Next (begun_records stage n now all id (problem_of stage.conf n now values id t))
  unfolding problem_of
  begin_next values t all =
      let problem : Rec = problem_of stage.conf n now values id t in
      let closes : Closes = ruled stage problem all in
      let ends : List Rec = ruled_records stage n now all closes.old in
      let last : List Rec = last_records stage.conf n now id problem closes.new in
      let plain : Each IsPlain ends = closed_plain stage.conf n now causes.Correlation (λ e. all (home stage e)) closes.old in
      let quiet = begun_quiet stage n now all id problem closes in
      let new : List Rec = ends ++ last in
      add n (id ∷ done) rs (problem ∷ ends ++ last) weaker
      (inr (refl, inl refl), each_append (IsMade n (id ∷ done)) ends last (plain_made n (id ∷ done) ends plain) (last_made problem closes.new refl))
      (quiet_behind problem (ends ++ last) quiet, quiet_pairs (ends ++ last) quiet)
      (each_sub (λ r. is_of event r ≡ false) (λ r. Each (StandsBehind r) (problem ∷ ends ++ last)) rs (λ r h. (h, quiet_behind r (ends ++ last) quiet)) of_none)
      (λ e a. subst (Count (next_from 1 (steps_run e a rs))) (sym (runs_append e a ends last ∙ ap (λ xs. xs ++ steps_run e a last) (plain_runs e a ends plain))) (last_follows problem closes.new refl e a))

  verdict_next : (values : List (Option Held)) (t : Trigger) (all : ℕ → List Open) (v : Verdict) → Next (verdict_records stage n now values id t all v)
  unfolding verdict_records
  verdict_next values t all Nothing = add_none n (id ∷ done) rs weaker
  verdict_next values t all New = begin_next values t all
  verdict_next values t all (Close events) = add_plain n (id ∷ done) rs (flat_map (closed_records stage.conf n now causes.Expression (all id)) events) weaker (closed_plain stage.conf n now causes.Expression (λ e. all id) events)

  one_next : (all : ℕ → List Open) → Next (evaluated stage (occasion_of tick number entry) items all id)
  one_next all = go (at_id stage.conf.triggers id) refl
    where
      any : (os : List Open) → Each (λ o. Unit {0}) os
      any [] = tt
      any (o ∷ os) = (tt, any os)

      go : (t : Option Trigger) → at_id stage.conf.triggers id ≡ t → Next (evaluated stage (occasion_of tick number entry) items all id)
      go None e = subst Next (sym (evaluated_none stage (occasion_of tick number entry) items all id e)) (add_none n (id ∷ done) rs weaker)
      go (Some t) e =
          subst Next (sym (judged_is stage (occasion_of tick number entry) items all id t e))
          (judged_has (λ v. Unit {0}) Next stage (occasion_of tick number entry) (seen_in items (occasion_of tick number entry) stage.conf.utc_offset t) id t (is_held stage.conf all id) all (λ v h. verdict_next (shown_values items (moment_of entry) t) t all v) (any (all id)))

module _ (stage : Stage) (own : HaveOwnNames stage.conf.actions) where
  phase_next : (tick : Option ℕ) (number : ℕ) (entry : Entry) (items : ℕ → List Stored) (done ids : List ℕ) (rs : List Rec) → Fine number done rs → Once ids → ((x : ℕ) → In x ids → In x done → ⊥)
      → (all : List ℕ) × Adds number all rs (phase_over stage (evaluated stage (occasion_of tick number entry) items) rs ids)
  phase_next tick number entry items done [] rs fine once apart = (done, add_none number done rs fine)
  phase_next tick number entry items done (id ∷ ids) rs fine once apart =
      let new : List Rec = evaluated stage (occasion_of tick number entry) items (open_of stage rs) id in
      let one = one_next stage own tick number entry items done id rs fine (apart id (inl refl)) (open_of stage rs) in
      let rest = phase_next tick number entry items (id ∷ done) ids (rs ++ new) one.1 once.1 still in
      (rest.0, add_both number (id ∷ done) rest.0 rs new (phase_over stage (evaluated stage (occasion_of tick number entry) items) (rs ++ new) ids) one rest.1)
    where
      still : (x : ℕ) → In x ids → In x (id ∷ done) → ⊥
      still x i (inl q) = once.0 (subst (λ y. In y ids) q i)
      still x i (inr j) = apart x (inr i) j

  -- what is due
  due_follows : (now : ℕ) (rs : List Rec) (e : EventId) (a : List ℕ) (os : List Open) → EachPair Differ os → Each (KeptAs rs) os → Rise rs → Count (next_from 1 (steps_run e a rs)) (steps_run e a (flat_map (due_for stage now) os))
  due_follows now rs e a [] d k rise = tt
  due_follows now rs e a (o ∷ os) d k rise = go (same_event e (event_in o)) refl (due_follows now rs e a os d.1 k.1 rise)
    where
      t : ℕ
      t = home stage (event_in o)

      parts : steps_run e a (flat_map (due_for stage now) (o ∷ os)) ≡ steps_run e a (due_for stage now o) ++ steps_run e a (flat_map (due_for stage now) os)
      parts = runs_append e a (due_for stage now o) (flat_map (due_for stage now) os)

      others : (xs : List Open) → Each (λ x. same_event e (event_in x) ≡ false) xs → steps_run e a (flat_map (due_for stage now) xs) ≡ []
      others [] h = refl
      others (x ∷ xs) h =
          runs_append e a (due_for stage now x) (flat_map (due_for stage now) xs)
          ∙ ap (λ ys. ys ++ steps_run e a (flat_map (due_for stage now) xs)) (due_other stage.conf x.problem x.steps now e a (home stage (event_in x)) h.0) ∙ others xs h.1

      -- the greatest step that is kept is the last one of all
      last : e ≡ event_in o → number_behind (last_step o.steps (event_in o) a) ≡ next_from 1 (steps_run e a rs)
      last is =
          ap (λ xs. number_behind (reduce later xs)) (k.0 a) ∙ ap number_behind (greatest_of_one later (last_or None (filter_map (ran_of (event_in o) a) rs)))
          ∙ last_number_is (event_in o) a rs ∙ ap (λ v. next_from 1 (steps_run v a rs)) (sym is)
        where
          greatest_of_one : {A : Type 0} (f : A → A → A) (x : Option A) → reduce f (option_to_list x) ≡ x
          greatest_of_one f None = refl
          greatest_of_one f (Some ran) = refl

      go : (b : Bool) → same_event e (event_in o) ≡ b → Count (next_from 1 (steps_run e a rs)) (steps_run e a (flat_map (due_for stage now) os)) → Count (next_from 1 (steps_run e a rs)) (steps_run e a (flat_map (due_for stage now) (o ∷ os)))
      go true q ih =
          let is : e ≡ event_in o = same_is e (event_in o) q in
          let rest = others os (each_sub (Differ o) (λ x. same_event e (event_in x) ≡ false) os (λ x h. ap (λ v. same_event v (event_in x)) is ∙ h) d.0) in
          subst (Count (next_from 1 (steps_run e a rs))) (sym (parts ∙ ap (λ ys. steps_run e a (due_for stage now o) ++ ys) rest ∙ append-nil (steps_run e a (due_for stage now o))))
          (at_most_counts (next_from 1 (steps_run e a rs)) (steps_run e a (due_for stage now o)) (subst (λ x. AtMost x (steps_run e a (due_for stage now o))) (last is) (due_own stage.conf o.problem o.steps now e a t own q)))
      go false q ih =
          subst (Count (next_from 1 (steps_run e a rs))) (sym (parts ∙ ap (λ ys. ys ++ steps_run e a (flat_map (due_for stage now) os)) (due_other stage.conf o.problem o.steps now e a t q))) ih

  due_next : (n now : ℕ) (done : List ℕ) (rs : List Rec) → Fine n done rs → Adds n done rs (due_over stage now (open_of stage rs))
  unfolding due_over
  due_next n now done rs fine =
      let os : List Open = by_making stage (open_of stage rs) in
      add_quiet n done rs (flat_map (due_for stage now) os) fine
      (each_flat_map IsQuiet (due_for stage now) os (λ o. about_quiet (event_in o) (due_for stage now o) (due_about stage.conf (home stage (event_in o)) o.problem o.steps now)))
      (each_due os (making_each (λ o. Made n done (event_in o)) stage (open_of stage rs) (λ id. open_has (Made n done) stage id rs (each_sub (IsMade n done) (OfProblem (Made n done)) rs its fine.made))))
      (λ e a. due_follows now rs e a os (making_differ stage rs fine.behind) (making_each (KeptAs rs) stage (open_of stage rs) (kept_all stage rs fine.behind)) fine.rise)
    where
      its : (r : Rec) → IsMade n done r → OfProblem (Made n done) r
      its (Problem event now severity suppressed host trigger name tags) m = m
      its (Step event action step now) m = tt
      its (Failure number host key why) m = tt
      its (Recovery event by now cause) m = tt
      its (Message event action step recipient subject body) m = tt

      each_due : (xs : List Open) → Each (λ o. Made n done (event_in o)) xs → Each (IsMade n done) (flat_map (due_for stage now) xs)
      each_due [] h = tt
      each_due (x ∷ xs) h =
          each_append (IsMade n done) (due_for stage now x) (flat_map (due_for stage now) xs)
          (about_made (event_in x) n done (due_for stage now x) h.0 (due_about stage.conf (home stage (event_in x)) x.problem x.steps now)) (each_due xs h.1)

  at_next : (n : ℕ) (done : List ℕ) (entry : Entry) (rs : List Rec) → Fine n done rs → Adds n done rs (due_at stage entry (open_of stage rs))
  unfolding due_at
  at_next n done (Config now text) rs fine = add_none n done rs fine
  at_next n done (Value now item time value) rs fine = add_none n done rs fine
  at_next n done (Tick now) rs fine = due_next n now done rs fine

module _ (start : Start) (own : HaveOwnNames start.stage.conf.actions) where
  judged_next : (log : List Numbered) (e : Numbered) (rs : List Rec) → Fine e.number [] rs → (all : List ℕ) × Adds e.number all rs (judged_of start log e e.entry rs)
  unfolding judged_of
  judged_next log e rs fine =
      let f : List Rec = failures_at start.stage.conf (memory_of start log) e.number e.entry in
      let a = add_plain e.number [] rs f fine (failures_plain start.stage.conf (memory_of start log) e.number e.entry) in
      let r = phase_next start.stage own (first_tick start log) e.number e.entry (history_of start (e ∷ log)) [] (triggers_at start.stage.conf (memory_of start log) e.number e.entry) (rs ++ f) a.1
      (once_triggers start.stage.conf (memory_of start log) e.number e.entry) (λ x i j. j) in
      (r.0, add_both e.number [] r.0 rs f (phase_over start.stage (evaluated start.stage (occasion_of (first_tick start log) e.number e.entry) (history_of start (e ∷ log))) (rs ++ f) (triggers_at start.stage.conf (memory_of start log) e.number e.entry)) a r.1)

  out_next : (log : List Numbered) (e : Numbered) (rs : List Rec) → Fine e.number [] rs → (all : List ℕ) × Adds e.number all rs (out_of start log e e.entry rs)
  unfolding out_of
  out_next log e rs fine =
      let r = judged_next log e rs fine in
      let judged : List Rec = judged_of start log e e.entry rs in
      let d = at_next start.stage own e.number r.0 e.entry (rs ++ judged) (r.1).1 in
      (r.0, add_both e.number r.0 r.0 rs judged (due_at start.stage e.entry (open_of start.stage (rs ++ judged))) r.1 d)

  replay_fine : HaveSteps start.number start.records → (log : List Numbered) → IsRising start log → (m : ℕ) → last_number start log < m → AreNext start.records (replay start log) × Fine m [] (start.records ++ replay start log)
  replay_fine have [] rising m l =
      (tt, subst (Fine m []) (sym (append-nil start.records)) (record { made = each_sub (IsUpTo start.number) (IsMade m []) start.records below have.upto; behind = have.behind; rise = have.rise }))
    where
      below : (r : Rec) → IsUpTo start.number r → IsMade m [] r
      below (Problem event now severity suppressed host trigger name tags) u = inl (omega arith)
      below (Step event action step now) u = inl (omega arith)
      below (Failure number host key why) u = tt
      below (Recovery event by now cause) u = tt
      below (Message event action step recipient subject body) u = tt
  replay_fine have (e ∷ log) rising m l =
      let older = replay_fine have log rising.1 e.number rising.0 in
      let here = out_next log e (start.records ++ replay start log) older.1 in
      let new : List Rec = out_of start log e e.entry (start.records ++ replay start log) in (
        next_append start.records (replay start log) new older.0 (here.1).0,
        fine_sub e.number m here.0 [] (start.records ++ (replay start log ++ new)) (later_on here.0) (subst (Fine e.number here.0) (append_assoc start.records (replay start log) new) (here.1).1),
      )
    where
      later_on : (all : List ℕ) (event : EventId) → Made e.number all event → Made m [] event
      later_on all event (inl k) = inl (omega arith)
      later_on all event (inr d) = let q : event.number ≡ e.number = d.0 in inl (omega arith)

pub steps_rise : StepsRise
steps_rise start log own have rising =
    let bound : last_number start log < last_number start log + 1 = omega arith in
    let r = replay_fine start own have log rising (last_number start log + 1) bound in
    let rs : List Rec = start.records ++ replay start log in (
      r.0,
      record { upto = each_sub (IsMade (last_number start log + 1) []) (IsUpTo (last_number start log)) rs upto (r.1).made; behind = (r.1).behind; rise = (r.1).rise },
      λ id. each_sub (KeptAs rs) (λ o. (action : List ℕ) → KeepsLast (event_in o) rs o.steps action) (open_of start.stage rs id) (λ o k action. (subst IsStrictlyIncreasing (sym (numbers_are (event_in o) action rs)) (increasing (steps_run (event_in o) action rs) ((r.1).rise (event_in o) action)), k action)) (kept_all start.stage rs (r.1).behind id),
    )
  where
    upto : (x : Rec) → IsMade (last_number start log + 1) [] x → IsUpTo (last_number start log) x
    upto (Problem event now severity suppressed host trigger name tags) (inl k) = omega arith
    upto (Problem event now severity suppressed host trigger name tags) (inr d) = absurd d.1
    upto (Step event action step now) (inl k) = omega arith
    upto (Step event action step now) (inr d) = absurd d.1
    upto (Failure number host key why) k = tt
    upto (Recovery event by now cause) k = tt
    upto (Message event action step recipient subject body) k = tt

pub fresh_has_steps : FreshHasSteps
fresh_has_steps stage = record { upto = tt; behind = tt; rise = λ event action. tt }
