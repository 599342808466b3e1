-- Laws of events that are taken together, committed and answered.
use Rattle.std.proofs.Common.{◌≡◌, ◌⊎◌, ⊎_elim, ℕ, ◌+◌, ◌≤◌, ◌<◌, List, [], ◌∷◌, ◌++◌, length, refl, sym, ap, ap₂, ◌∙◌, subst, append-nil, length-append, arith, inl, inr}
use Rattle.std.specs.Prelude.{Option, Some, None, IfSome, is_some, Result, Ok, Err, IfOk, OnErr}
use Rattle.std.specs.Option.{option_to_list}
use Rattle.zbx_types.specs.declared.conf.Conf.{Conf}
use Rattle.zbx_types.specs.declared.entries.Numbered.{Numbered}
use Rattle.outside.specs.Causes.{Rose}
use Rattle.outside.specs.Disk.{DiskTells, LeavesOnly}
use Rattle.outside.specs.Tells.{WireTells}
use Rattle.outside.specs.declared.event.WireEvent.{WireEvent}
use Rattle.outside.specs.declared.event.Trouble.{Trouble}
use Rattle.outside.specs.declared.event.Trouble.TheVariants as trouble
use Rattle.intake_journal.specs.Settled.{Journaled}
use Rattle.intake_journal.specs.declared.state.State.TheVariants as state
use Rattle.entry_step.specs.Start.{Start}
use Rattle.intake_front.specs.Intake.{Limits, Intake, IsSound, Handled, handled}
use Rattle.intake_front.specs.Served.{Served, grown, served_on, served_from, served}
use Rattle.intake_front.specs.Fronted.{Fronted, KeepsEither, IsKept, IsReady, limits_of, refused_group}
use Rattle.intake_front.specs.Batch.{Answered, answered_more, answered_on, answered_from, answered, IsIdle, HasTaken}
use Rattle.intake_front.specs.declared.answer.Answer.{Answer}
use Rattle.intake_front.specs.declared.answer.Stop.{Stop}
use Rattle.intake_front.specs.declared.answer.Stop.TheVariants as stop
use Rattle.server_run.specs.Events.{Doing, Gave, HasGiven, Gathered, GatheredBy, GatheredMore, Ran, Took}
use Rattle.server_run.specs.Sending.{Outgoing, nothing_out, with_answer, outgoing_from, outgoing, Shows}
use Rattle.server_run.specs.Statuses.{Ending, at_wire_fault, anywhere, at_refusal, LeftIs}
use Rattle.server_run.specs.Stops.{refusing, IsReached}
use Rattle.journal_opening.specs.Journals.{IsEither, Journals}
use Rattle.server_run.proofs.Handling.{served_stop}
use Rattle.server_run.proofs.Joining.{no_last, same_front_of, given_none, given_both}
use Rattle.server_run.proofs.Sending.{shows_since}
use Rattle.server_run.proofs.Stopping.{journals_more, journals_event}

-- ---- what answers hand out is what the events make

pub outgoing_more : (o : Outgoing) (answers : List Answer) (a : Answer) → outgoing_from o (answers ++ a ∷ []) ≡ with_answer (outgoing_from o answers) a
outgoing_more o [] a = refl
outgoing_more o (x ∷ xs) a = outgoing_more (with_answer o x) xs a

-- what events make, as their answers hand it out
abbrev out_of : Served → Outgoing
out_of s = record { replies = s.replies; shut = s.shut; stop = s.stop }

-- events that were answered made what they make
record Tied (a : Answered) (s : Served) : Type 0 where
  intake : a.intake ≡ s.intake
  stop_is : a.stop ≡ s.stop
  out : outgoing a.answers ≡ out_of s

tied_more : (a : Answered) (s : Served) (h : Handled) → Tied a s → Tied (answered_more a h) (grown s h)
tied_more a s h t = record { intake = refl; stop_is = refl; out = outgoing_more nothing_out a.answers h.answer ∙ ap (λ (o : Outgoing). with_answer o h.answer) t.out }

tied_on : (o : Option Stop) (l : Limits) (conf : Conf) (a : Answered) (s : Served) (e : WireEvent) → Tied a s → Tied (answered_on o l conf a e) (served_on o l conf s e)
tied_on (Some x) l conf a s e t = t
tied_on None l conf a s e t =
    subst (λ (i : Intake). Tied (answered_more a (handled l conf a.intake e)) (grown s (handled l conf i e))) t.intake (tied_more a s (handled l conf a.intake e) t)

tied_from : (l : Limits) (conf : Conf) (a : Answered) (s : Served) (es : List WireEvent) → Tied a s → Tied (answered_from l conf a es) (served_from l conf s es)
tied_from l conf a s [] t = t
tied_from l conf a s (e ∷ es) t =
    let next : Tied (answered_on a.stop l conf a e) (served_on s.stop l conf s e) = subst (λ o. Tied (answered_on a.stop l conf a e) (served_on o l conf s e)) t.stop_is (tied_on a.stop l conf a s e t) in
    tied_from l conf (answered_on a.stop l conf a e) (served_on s.stop l conf s e) es next

tied : (l : Limits) (conf : Conf) (i : Intake) (es : List WireEvent) → Tied (answered l conf i es) (served l conf i es)
tied l conf i es =
    tied_from l conf (record { intake = i; answers = []; stop = None }) (record { intake = i; replies = []; shut = []; stop = None }) es (record { intake = refl; stop_is = refl; out = refl })

answered_append : (l : Limits) (conf : Conf) (a : Answered) (x y : List WireEvent) → answered_from l conf a (x ++ y) ≡ answered_from l conf (answered_from l conf a x) y
answered_append l conf a [] y = refl
answered_append l conf a (e ∷ es) y = answered_append l conf (answered_on a.stop l conf a e) es y

on_running : (o : Option Stop) (l : Limits) (conf : Conf) (a : Answered) (e : WireEvent) → o ≡ None → answered_on o l conf a e ≡ answered_more a (handled l conf a.intake e)
on_running None l conf a e none = refl
on_running (Some x) l conf a e none = absurd (cc)

-- one event more, where none stopped
answered_one : (l : Limits) (conf : Conf) (i : Intake) (es : List WireEvent) (e : WireEvent) → (answered l conf i es).stop ≡ None
    → answered l conf i (es ++ e ∷ []) ≡ answered_more (answered l conf i es) (handled l conf (answered l conf i es).intake e)
answered_one l conf i es e none = answered_append l conf (record { intake = i; answers = []; stop = None }) es (e ∷ []) ∙ on_running (answered l conf i es).stop l conf (answered l conf i es) e none

-- ---- events are gathered

-- a front that holds the same holds back the same
has_same : {D : Type 0} (conf : Conf) (begun : Intake) (events : List WireEvent) (a b : Fronted D) → b.journal ≡ a.journal → b.kept ≡ a.kept → b.intake.entries ≡ a.intake.entries → b.block ≡ a.block
    → b.answers ≡ a.answers → b.failing ≡ a.failing → HasTaken conf begun events a → HasTaken conf begun events b
has_same {D = D} conf begun events a b journal kept entries block answers failing h =
    let x : Fronted D = record { journal = a.journal; intake = b.intake; kept = a.kept; block = a.block; answers = a.answers; failing = a.failing } in
    let h0 : HasTaken conf begun events x = record { kept_is = h.kept_is; entries_are = entries ∙ h.entries_are; answers_are = h.answers_are; failing_are = h.failing_are; none = h.none; some = h.some } in
    let h1 = subst (λ (j : Journaled D). HasTaken conf begun events (record x { journal = j })) (sym journal) h0 in
    let h2 = subst (λ k. HasTaken conf begun events (record x { journal = b.journal; kept = k })) (sym kept) h1 in
    let h3 = subst (λ k. HasTaken conf begun events (record x { journal = b.journal; kept = b.kept; block = k })) (sym block) h2 in
    let h4 = subst (λ k. HasTaken conf begun events (record x { journal = b.journal; kept = b.kept; block = b.block; answers = k })) (sym answers) h3 in
    subst (λ k. HasTaken conf begun events (record x { journal = b.journal; kept = b.kept; block = b.block; answers = b.answers; failing = k })) (sym failing) h4

-- an idle front has taken no events
pub gathered_start : {D : Type 0} (conf : Conf) (front : Fronted D) (w : WireTells) → IsIdle front → Gathered conf front front w w 0 None None anywhere
gathered_start conf front w idle = record {
  events = [];
  count_is = refl;
  gives = given_none w;
  taken = record {
    kept_is = idle.kept_is;
    entries_are = refl;
    answers_are = idle.no_answers;
    failing_are = idle.no_failing;
    none = λ empty. (refl, refl);
    some = λ more. absurd (omega (arith, more, ap length idle.no_block));
  };
  journal_stays = refl;
  runs_on = λ front last is. absurd (no_last front last is);
  stop_is = refl;
  intake_is = λ none. refl;
  sound = λ flat ground sound. sound;
}

module _ {D : Type 0} (conf : Conf) (front0 front1 front2 : Fronted D) (w0 w1 w2 : WireTells) (count : ℕ) (g : Gathered conf front0 front1 w0 w1 count None None anywhere) where
  abbrev l0 : Limits
  l0 = limits_of front0.journal 0

  abbrev l1 : Limits
  l1 = limits_of front1.journal 0

  same_limits : l1 ≡ l0
  same_limits = ap (λ (j : Journaled D). limits_of j 0) g.journal_stays

  -- one event more
  pub gathered_more : (e : WireEvent) (s : Option Stop) → HasGiven w1 w2 (e ∷ []) None anywhere → front2.journal ≡ front1.journal
      → s ≡ (handled l1 conf front1.intake e).answer.stop → front2.intake ≡ (handled l1 conf front1.intake e).intake
      → ((begun : Intake) (events : List WireEvent) → front1.intake ≡ (answered l1 conf begun events).intake → (answered l1 conf begun events).stop ≡ None
      → HasTaken conf begun events front1 → HasTaken conf begun (events ++ e ∷ []) front2)
      → ((flat : List ℕ → Conf) (ground : Start) → IsSound flat ground conf front1.intake → IsSound flat ground conf front2.intake) → Gathered conf front0 front2 w0 w2 (count + 1) s None anywhere
  gathered_more e s gives journal stops after takes keeps =
      let so_far = answered l0 conf front0.intake g.events in
      let here : front1.intake ≡ so_far.intake = g.intake_is refl in
      let running : so_far.stop ≡ None = sym g.stop_is in
      let one : answered l0 conf front0.intake (g.events ++ e ∷ []) ≡ answered_more so_far (handled l0 conf so_far.intake e) = answered_one l0 conf front0.intake g.events e running in
      let at : handled l1 conf front1.intake e ≡ handled l0 conf so_far.intake e = ap₂ (λ (l : Limits) (i : Intake). handled l conf i e) same_limits here in
      let intake : front2.intake ≡ (answered l0 conf front0.intake (g.events ++ e ∷ [])).intake = after ∙ ap (λ (h : Handled). h.intake) at ∙ sym (ap (λ (a : Answered). a.intake) one) in
      record {
        events = g.events ++ e ∷ [];
        count_is = omega (arith, g.count_is, length-append g.events (e ∷ []));
        gives = given_both w0 w1 w2 g.events (e ∷ []) None anywhere g.gives gives;
        taken = takes front0.intake g.events (here ∙ sym (ap (λ (l : Limits). (answered l conf front0.intake g.events).intake) same_limits)) (ap (λ (l : Limits). (answered l conf front0.intake g.events).stop) same_limits ∙ running) g.taken;
        journal_stays = journal ∙ g.journal_stays;
        runs_on = λ front last is. ap (λ (es : List WireEvent). (answered l0 conf front0.intake es).stop) (sym (same_front_of g.events front e last is)) ∙ running;
        stop_is = stops ∙ ap (λ (h : Handled). h.answer.stop) at ∙ sym (ap (λ (a : Answered). a.stop) one);
        intake_is = λ none. intake;
        sound = λ flat ground sound. subst (IsSound flat ground conf) intake (keeps flat ground (subst (IsSound flat ground conf) (sym here) (g.sound flat ground sound)));
      }

  -- no event more, since the wire gave none, or there was no memory for one
  pub gathered_none : (ending : Ending) → HasGiven w1 w2 [] None ending → Gathered conf front0 front1 w0 w2 count None None ending
  gathered_none ending gives = record {
    events = g.events;
    count_is = g.count_is;
    gives = subst (λ es. HasGiven w0 w2 es None ending) (append-nil g.events) (given_both w0 w1 w2 g.events [] None ending g.gives gives);
    taken = g.taken;
    journal_stays = g.journal_stays;
    runs_on = g.runs_on;
    stop_is = g.stop_is;
    intake_is = g.intake_is;
    sound = g.sound;
  }

  -- an event that the wire didn't give
  pub gathered_failed : (r : Result (Option Stop) Trouble) (t : Trouble) → r ≡ Err t → w2.given ≡ w1.given → w2.sent ≡ w1.sent → w2.sends ≡ w1.sends → w2.closed ≡ w1.closed → w2.unsent ≡ w1.unsent
      → GatheredMore conf front0 front1 w0 w2 count r
  gathered_failed r t is given sent sends closed unsent = subst (GatheredMore conf front0 front1 w0 w2 count) (sym is) (by t)
    where
      nothing : (ending : Ending) → Gave w1.left w2.left [] None ending → HasGiven w1 w2 [] None ending
      nothing ending told = record { given = omega (arith, given); told = told; sent_stays = sent; sends_stay = sends; closed_stays = closed; unsent_stays = unsent }

      untold_fault : (left : Option (List WireEvent)) → Gave left w2.left [] None at_wire_fault
      untold_fault None = tt
      untold_fault (Some all) = (all, refl, tt)

      untold_refusal : (left : Option (List WireEvent)) → Gave left w2.left [] None at_refusal
      untold_refusal None = tt
      untold_refusal (Some all) = (all, refl, tt)

      by : (t : Trouble) → GatheredMore conf front0 front1 w0 w2 count (Err t)
      by trouble.Failed = gathered_none at_wire_fault (nothing at_wire_fault (untold_fault w1.left))
      by trouble.OutOfMemory = (None, gathered_none at_refusal (nothing at_refusal (untold_refusal w1.left)))

  -- an event for which memory was refused
  pub gathered_lost : (e : WireEvent) → HasGiven w1 w2 [] (Some e) at_refusal → front2.journal ≡ front1.journal → front2.kept ≡ front1.kept
      → (front2.intake.entries ≡ front1.intake.entries) × (front2.block ≡ front1.block) × (front2.answers ≡ front1.answers) × (front2.failing ≡ front1.failing)
      → (lost : Option WireEvent) × Gathered conf front0 front2 w0 w2 count None lost at_refusal
  gathered_lost e gives journal kept same = (Some e, all)
    where
      all : Gathered conf front0 front2 w0 w2 count None (Some e) at_refusal
      all = record {
        events = g.events;
        count_is = g.count_is;
        gives = subst (λ es. HasGiven w0 w2 es (Some e) at_refusal) (append-nil g.events) (given_both w0 w1 w2 g.events [] (Some e) at_refusal g.gives gives);
        taken = has_same conf front0.intake g.events front1 front2 journal kept same.0 same.1 same.2 same.3 g.taken;
        journal_stays = journal ∙ g.journal_stays;
        runs_on = g.runs_on;
        stop_is = g.stop_is;
        intake_is = λ none. absurd (cc);
        sound = g.sound;
      }

-- the wire gave no more behind some events, or memory was refused
pub gathered_by : {D : Type 0} (conf : Conf) (old new : Fronted D) (w w' : WireTells) (count : ℕ) (t : Trouble) → GatheredMore conf old new w w' count (Err t) → GatheredBy conf old new w w' count (Err t)
gathered_by conf old new w w' count trouble.Failed g = g
gathered_by conf old new w w' count trouble.OutOfMemory g = g

-- by an equal configuration the same
pub gathered_of : {D : Type 0} (a b : Conf) (old new : Fronted D) (w w' : WireTells) (count : ℕ) (s : Option Stop) (lost : Option WireEvent) (e : Ending) → a ≡ b → Gathered a old new w w' count s lost e → Gathered b old new w w' count s lost e
gathered_of a b old new w w' count s lost e is = subst (λ (k : Conf). Gathered k old new w w' count s lost e) is

pub more_of : {D : Type 0} (a b : Conf) (old new : Fronted D) (w w' : WireTells) (count : ℕ) (r : Result (Option Stop) Trouble) → a ≡ b → GatheredMore a old new w w' count r → GatheredMore b old new w w' count r
more_of a b old new w w' count r is = subst (λ (k : Conf). GatheredMore k old new w w' count r) is

-- the journal has its base still, where a commit keeps that
pub base_still : {D : Type 0} (conf : Conf) (old mid new : Fronted D) (w w' : WireTells) (count : ℕ) (gathered : Result (Unit {0}) Trouble) → GatheredBy conf old mid w w' count gathered → new.journal.base ≡ mid.journal.base
    → new.journal.base ≡ old.journal.base
base_still {D} conf old mid new w w' count (Ok enough) (s, g) keeps = keeps ∙ ap (λ (j : Journaled D). j.base) g.journal_stays
base_still {D} conf old mid new w w' count (Err trouble.Failed) g keeps = keeps ∙ ap (λ (j : Journaled D). j.base) g.journal_stays
base_still {D} conf old mid new w w' count (Err trouble.OutOfMemory) (lost, g) keeps = keeps ∙ ap (λ (j : Journaled D). j.base) g.journal_stays

-- ---- and committed

refused_none : (i : Intake) (s : Option Stop) → (s ≡ Some stop.DiskFault → ⊥) → refused_group i s ≡ 0
refused_none i None other = refl
refused_none i (Some stop.Closed) other = refl
refused_none i (Some stop.DiskFault) other = absurd (other refl)
refused_none i (Some (stop.Full entries bytes)) other = refl

at_most_one : (lost : Option WireEvent) → length (option_to_list lost) ≤ 1
at_most_one None = omega arith
at_most_one (Some e) = omega arith

module _ {D : Type 0} (tells : D → DiskTells)
    (conf : Conf) (front0 front1 front2 : Fronted D) (w0 w1 w2 : WireTells) (answers : List Answer) (s : Option Stop)
    (is_ready : (front2.journal.state ≡ state.Ready) ⊎ (front2.journal.state ≡ state.Broken))
    (done : front2.journal.state ≡ state.Ready → (answers ≡ front1.answers) × (front2.intake ≡ front1.intake) × IsReady front1.journal front2.journal)
    (failed : front2.journal.state ≡ state.Broken → (answers ≡ front1.failing) × (front2.intake.entries ≡ front1.kept) × (0 < length front1.block) × Rose (tells front1.journal.disk).faults (tells front2.journal.disk).faults)
    (durable : front2.journal.state ≡ state.Ready → IsKept (tells front2.journal.disk) front1.journal.base front2.intake.entries)
    (any_moment : IfSome (tells front1.journal.disk).bytes (λ _. LeavesOnly (tells front1.journal.disk) (tells front2.journal.disk) (KeepsEither front1.journal.base front1.kept front1.intake.entries)))
    (later : (tells front1.journal.disk).faults ≤ (tells front2.journal.disk).faults) (told : is_some (tells front2.journal.disk).bytes ≡ is_some (tells front1.journal.disk).bytes)
    (stop_is : s ≡ (outgoing answers).stop) (shows : Shows w1 w2 (outgoing answers).replies (outgoing answers).shut) (left : w2.left ≡ w1.left) (given : w2.given ≡ w1.given) (unsent : w1.unsent ≤ w2.unsent) where
  abbrev i0 : Intake
  i0 = front0.intake

  abbrev l : Limits
  l = limits_of front0.journal 0

  abbrev did : Doing
  did = Journals (λ c. ⊥) (tells front0.journal.disk) (tells front2.journal.disk) front0.journal.base

  -- how a commit went
  record Committed (s0 : Option Stop) (count : ℕ) (lost : Option WireEvent) (ending : Ending) : Type 0 where
    ran : Ran (refusing l (refused_group i0 s)) conf i0.entries i0 front2.intake did w0 w2 count s lost ending
    stops : (s ≡ s0) ⊎ (s ≡ Some stop.DiskFault)
    none_added : s ≡ Some stop.DiskFault → front2.intake.entries ≡ i0.entries
    sound : (flat : List ℕ → Conf) (ground : Start) → IsSound flat ground conf i0 → (i : Intake) × IsSound flat ground conf i × (front2.intake.entries ≡ i.entries) × (s ≡ None → lost ≡ None → front2.intake ≡ i)
    ready : (s ≡ Some stop.DiskFault → ⊥) → IsReady front0.journal front2.journal

  module _ (count : ℕ) (s0 : Option Stop) (lost : Option WireEvent) (ending : Ending) (g : Gathered conf front0 front1 w0 w1 count s0 lost ending) where
    limits_at : (n : ℕ) → limits_of front1.journal n ≡ limits_of front0.journal n
    limits_at n = ap (λ (j : Journaled D). limits_of j n) g.journal_stays

    abbrev made : ℕ → Answered
    made n = answered (limits_of front0.journal n) conf i0 g.events

    abbrev makes : ℕ → Served
    makes n = served (limits_of front0.journal n) conf i0 g.events

    ties : (n : ℕ) → Tied (made n) (makes n)
    ties n = tied (limits_of front0.journal n) conf i0 g.events

    -- a crash meanwhile left the entries before these events, or all that they add
    reached : (n : ℕ) (es : List Numbered) → IsEither front1.kept front1.intake.entries es → IsReached (refusing l n) conf i0.entries i0 g.events es
    reached n es (inl is) = inl (is ∙ g.taken.kept_is)
    reached n es (inr is) =
        inr (inr (is ∙ g.taken.entries_are ∙ ap (λ (x : Limits). (answered x conf i0 g.events).intake.entries) (limits_at 0) ∙ ap (λ (i : Intake). i.entries) (ties 0).intake))

    journals : (n : ℕ) → (s ≡ Some stop.DiskFault → Rose (tells front1.journal.disk).faults (tells front2.journal.disk).faults) → ((s ≡ Some stop.DiskFault → ⊥) → IsKept (tells front2.journal.disk) front1.journal.base front2.intake.entries)
        → did (IsReached (refusing l n) conf i0.entries i0 g.events) s front2.intake.entries
    journals n fault kept = subst (λ (j : Journaled D). Journals (λ c. ⊥) (tells j.disk) (tells front2.journal.disk) j.base (IsReached (refusing l n) conf i0.entries i0 g.events) s front2.intake.entries) g.journal_stays
        (journals_more (λ c. ⊥) (tells front1.journal.disk) (tells front2.journal.disk) front1.journal.base (IsEither front1.kept front1.intake.entries) (IsReached (refusing l n) conf i0.entries i0 g.events) s front2.intake.entries (reached n)
        (journals_event (tells front1.journal.disk) (tells front2.journal.disk) front1.journal.base front1.kept front1.intake.entries front2.intake.entries s any_moment fault kept later told))

    -- what was answered is what the events make, where the disk refuses the group with this number
    ran_as : (n : ℕ) → answers ≡ (made n).answers → front2.intake.entries ≡ (made n).intake.entries → (s ≡ None → lost ≡ None → front2.intake ≡ (made n).intake)
        → did (IsReached (refusing l n) conf i0.entries i0 g.events) s front2.intake.entries → Ran (refusing l n) conf i0.entries i0 front2.intake did w0 w2 count s lost ending
    ran_as n are entries intake journaled =
        let out : outgoing answers ≡ out_of (makes n) = ap (λ (a : List Answer). outgoing a) are ∙ (ties n).out in
        record {
          taken = g.events;
          count_is = g.count_is;
          given = omega (arith, g.gives.given, g.count_is, given);
          told = subst (λ o. IfSome w0.left (λ all. (rest : List WireEvent) × (all ≡ g.events ++ (option_to_list lost ++ rest)) × LeftIs ending lost o rest)) (sym left) g.gives.told;
          entries_are = entries ∙ ap (λ (i : Intake). i.entries) (ties n).intake;
          intake_is = λ none kept. intake none kept ∙ (ties n).intake;
          runs_on = λ front last is. sym (tied (limits_of front0.journal 0) conf i0 front).stop_is ∙ g.runs_on front last is;
          stop_is = stop_is ∙ ap (λ (o : Outgoing). o.stop) out;
          shows = subst (λ (o : Outgoing). Shows w0 w2 o.replies o.shut) out
              (shows_since w0 w1 w2 (outgoing answers).replies (outgoing answers).shut g.gives.sent_stays g.gives.sends_stay g.gives.closed_stays g.gives.unsent_stays shows);
          journaled = journaled;
          later = omega (arith, unsent, g.gives.unsent_stays);
        }

    -- all groups were kept
    kept_all : front2.journal.state ≡ state.Ready → Committed s0 count lost ending
    kept_all ready =
        let d = done ready in
        let are : answers ≡ (made 0).answers = d.0 ∙ g.taken.answers_are ∙ ap (λ (x : Limits). (answered x conf i0 g.events).answers) (limits_at 0) in
        let entries : front2.intake.entries ≡ (made 0).intake.entries = ap (λ (i : Intake). i.entries) d.1 ∙ g.taken.entries_are ∙ ap (λ (x : Limits). (answered x conf i0 g.events).intake.entries) (limits_at 0) in
        let intake : lost ≡ None → front2.intake ≡ (made 0).intake = λ kept. d.1 ∙ g.intake_is kept in
        let stops : s ≡ (makes 0).stop = stop_is ∙ ap (λ (a : List Answer). (outgoing a).stop) are ∙ ap (λ (o : Outgoing). o.stop) (ties 0).out in
        let other : s ≡ Some stop.DiskFault → ⊥ = λ fault. served_stop l conf i0 g.events (sym stops ∙ fault) in
        let none : refused_group i0 s ≡ 0 = refused_none i0 s other in
        record {
          ran = subst (λ n. Ran (refusing l n) conf i0.entries i0 front2.intake did w0 w2 count s lost ending) (sym none)
              (ran_as 0 are entries (λ running kept. intake kept) (journals 0 (λ fault. absurd (other fault)) (λ well. durable ready)));
          stops = inl (stops ∙ sym (ties 0).stop_is ∙ sym g.stop_is);
          none_added = λ fault. absurd (other fault);
          sound = λ flat ground sound. ((made 0).intake, g.sound flat ground sound, entries, λ running kept. intake kept);
          ready = λ well. subst (λ (j : Journaled D). IsReady j front2.journal) g.journal_stays d.2;
        }

    -- the disk refused the first of them
    refused_first : front2.journal.state ≡ state.Broken → Committed s0 count lost ending
    refused_first broken =
        let f = failed broken in
        let m = i0.groups + 1 in
        let some = g.taken.some f.2 in
        let are : answers ≡ (made m).answers = f.0 ∙ g.taken.failing_are ∙ ap (λ (x : Limits). (answered x conf i0 g.events).answers) (limits_at m) in
        let stays : front2.intake.entries ≡ i0.entries = f.1 ∙ g.taken.kept_is in
        let refuses : (made m).intake.entries ≡ i0.entries = ap (λ (x : Limits). (answered x conf i0 g.events).intake.entries) (sym (limits_at m)) ∙ some.0 in
        let stops : s ≡ Some stop.DiskFault =
        stop_is ∙ ap (λ (a : List Answer). (outgoing a).stop) are ∙ ap (λ (o : Outgoing). o.stop) (ties m).out ∙ sym (ties m).stop_is ∙ ap (λ (x : Limits). (answered x conf i0 g.events).stop) (sym (limits_at m)) ∙ some.1 in
        record {
          ran = subst (λ n. Ran (refusing l n) conf i0.entries i0 front2.intake did w0 w2 count s lost ending) (sym (ap (refused_group i0) stops))
              (ran_as m are (stays ∙ sym refuses) (λ running kept. absurd (clash running stops)) (journals m (λ fault. f.3) (λ other. absurd (other stops))));
          stops = inr stops;
          none_added = λ fault. stays;
          sound = λ flat ground sound. (i0, sound, stays, λ running kept. absurd (clash running stops));
          ready = λ other. absurd (other stops);
        }
      where
        clash : s ≡ None → s ≡ Some stop.DiskFault → ⊥
        clash none some = cc

    committed : Committed s0 count lost ending
    committed = ⊎_elim kept_all refused_first is_ready

  -- what events did that were committed together
  pub took : (most count : ℕ) (gathered : Result (Unit {0}) Trouble) → GatheredBy conf front0 front1 w0 w1 count gathered → count ≤ most → OnErr gathered (count < most) → IfOk gathered (λ _. 0 < most → 0 < count)
      → Took l conf i0 front2.intake did w0 w2 most count s gathered
  took most count (Ok enough) (s0, g) few fewer some =
      let c = committed count s0 None anywhere g in
      record { lost = None; ran = c.ran; few = omega (arith, few); some = some; goes_on = tt; lost_is = inl refl; none_added = c.none_added; sound = c.sound }
  took most count (Err trouble.Failed) g few fewer some =
      let c = committed count None None at_wire_fault g in
      record { lost = None; ran = c.ran; few = omega (arith, few); some = tt; goes_on = c.stops; lost_is = inl refl; none_added = c.none_added; sound = c.sound }
  took most count (Err trouble.OutOfMemory) (lost, g) few fewer some =
      let c = committed count None lost at_refusal g in
      record { lost = lost; ran = c.ran; few = omega (arith, fewer, at_most_one lost); some = tt; goes_on = c.stops; lost_is = inr refl; none_added = c.none_added; sound = c.sound }

  -- and the journal is ready, unless the disk refused them
  pub still_ready : (count : ℕ) (gathered : Result (Unit {0}) Trouble) → GatheredBy conf front0 front1 w0 w1 count gathered → (s ≡ Some stop.DiskFault → ⊥) → IsReady front0.journal front2.journal
  still_ready count (Ok enough) (s0, g) other = (committed count s0 None anywhere g).ready other
  still_ready count (Err trouble.Failed) g other = (committed count None None at_wire_fault g).ready other
  still_ready count (Err trouble.OutOfMemory) (lost, g) other = (committed count None lost at_refusal g).ready other
