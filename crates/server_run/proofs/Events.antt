-- Laws of the taking of events.
use Rattle.std.proofs.Common.{◌≡◌, ◌⊎◌, ⊎_elim, ℕ, ◌+◌, ◌≤◌, ◌<◌, List, [], ◌++◌, length, refl, sym, ap, ap₂, ◌∙◌, subst, length-append, arith, inl, inr}
use Rattle.std.specs.Prelude.{Option, Some, None, IfSome, Result, Ok, Err, OnErr}
use Rattle.std.specs.Option.{option_to_list}
use Rattle.outside.specs.Disk.{DiskTells, IsLawful}
use Rattle.zbx_types.specs.declared.base.Base.{Base}
use Rattle.zbx_types.specs.declared.conf.Conf.{Conf}
use Rattle.zbx_types.specs.declared.entries.Numbered.{Numbered}
use Rattle.entry_step.specs.Each.{Each}
use Rattle.entry_laws.specs.InForce.{IsPlain}
use Rattle.outside.specs.Causes.{Rose}
use Rattle.zbx_types.specs.declared.memory.OutOfMemory.{OutOfMemory}
use Rattle.outside.specs.Tells.{WireTells}
use Rattle.outside.specs.declared.event.WireEvent.{WireEvent}
use Rattle.outside.specs.declared.event.Trouble.{Trouble}
use Rattle.outside.specs.declared.event.Trouble.TheVariants as trouble
use Rattle.intake_front.specs.Intake.{Limits, Intake}
use Rattle.intake_front.specs.Served.{Served, served}
use Rattle.intake_front.specs.Fronted.{IsKept, IsReady, limits_of, refused_group}
use Rattle.intake_journal.specs.Settled.{Journaled}
use Rattle.intake_front.specs.declared.answer.Stop.{Stop}
use Rattle.intake_front.specs.declared.answer.Stop.TheVariants as stop
use Rattle.server_words.specs.declared.status.Status.{Status}
use Rattle.server_words.specs.declared.status.Status.TheVariants as status
use Rattle.server_run.specs.Events.{Doing, Gave, ending_of, Ran, Took, Ends}
use Rattle.server_run.specs.Sending.{Shows}
use Rattle.server_run.specs.Statuses.{Ending, never, at_closed, at_limit, at_wire_fault, at_disk_fault, at_full, anywhere, at_refusal, behind_disk, ended_with, course_of, status_of, EndsAs, LeftIs}
use Rattle.server_run.specs.Going.{IsCause}
use Rattle.server_run.specs.Stops.{refusing, IsReached}
use Rattle.journal_opening.specs.Journals.{Journals}
use Rattle.server_run.specs.Runs.{Finished}
use Rattle.server_run.proofs.Handling.{served_plain}
use Rattle.server_run.proofs.Joining.{no_last, runs_on_both, gave_none, gave_both, behind, served_then, same_before, same_front, refused_is, reached_before, reached_then}
use Rattle.server_run.proofs.Sending.{shows_none, shows_both}
use Rattle.server_run.proofs.Stopping.{journals_none, journals_on}

-- entries stand behind those that were there, and none of them is a Config
pub ran_grows : (limits : Limits) (conf : Conf) (recovered : List Numbered) (old new : Intake) (did : Doing) (w w' : WireTells) (count : ℕ) (s : Option Stop) (lost : Option WireEvent) (ending : Ending)
    → Ran limits conf recovered old new did w w' count s lost ending → (more : List Numbered) × (new.entries ≡ old.entries ++ more) × Each IsPlain more
ran_grows limits conf recovered old new did w w' count s lost ending r = let grown = served_plain limits conf old r.taken in (grown.0, r.entries_are ∙ grown.1, grown.2)

-- ---- how a run ends

-- the status of a run whose last event stopped it
stopped : (turns count : ℕ) (s : Stop) → EndsAs (course_of (status_of s)).ending turns count (Some s) None
stopped turns count stop.Closed = (refl, refl)
stopped turns count stop.DiskFault = (refl, refl)
stopped turns count (stop.Full entries bytes) = (refl, refl)

-- the status of a run whose wire failed
wire_failed : (turns count : ℕ) (s : Option Stop) → (s ≡ None) ⊎ (s ≡ Some stop.DiskFault) → EndsAs (course_of (behind_disk s status.WireFault)).ending turns count s None
wire_failed turns count None why = (refl, refl)
wire_failed turns count (Some stop.DiskFault) why = (refl, refl)
wire_failed turns count (Some stop.Closed) (inl none) = absurd (cc)
wire_failed turns count (Some stop.Closed) (inr none) = absurd (cc)
wire_failed turns count (Some (stop.Full entries bytes)) (inl none) = absurd (cc)
wire_failed turns count (Some (stop.Full entries bytes)) (inr none) = absurd (cc)

some_status : (s t : Status) → Some s ≡ Some t → s ≡ t
some_status s t is = cc

-- an event was lost only where memory was refused
none_lost : (lost : Option WireEvent) (g other : Result (Unit {0}) Trouble) → g ≡ other → (other ≡ Err trouble.OutOfMemory → ⊥) → (lost ≡ None) ⊎ (g ≡ Err trouble.OutOfMemory) → lost ≡ None
none_lost lost g other is isnt (inl none) = none
none_lost lost g other is isnt (inr refused) = absurd (isnt (sym is ∙ refused))

pub no_trouble : (lost : Option WireEvent) (g : Result (Unit {0}) Trouble) (enough : Unit {0}) → g ≡ Ok enough → (lost ≡ None) ⊎ (g ≡ Err trouble.OutOfMemory) → lost ≡ None
no_trouble lost g enough is why = none_lost lost g (Ok enough) is (λ e. cc) why

no_refusal : (lost : Option WireEvent) (g : Result (Unit {0}) Trouble) → g ≡ Err trouble.Failed → (lost ≡ None) ⊎ (g ≡ Err trouble.OutOfMemory) → lost ≡ None
no_refusal lost g is why = none_lost lost g (Err trouble.Failed) is (λ e. cc) why

-- how the events ended that were committed together, by the status
ended_as : (turns count : ℕ) (lost : Option WireEvent) (s : Option Stop) (g : Result (Unit {0}) Trouble) (t : Result (Unit {0}) OutOfMemory) (e : Status) → ended_with s g t ≡ Some e
    → ((r : Trouble) → g ≡ Err r → (s ≡ None) ⊎ (s ≡ Some stop.DiskFault)) → (lost ≡ None) ⊎ (g ≡ Err trouble.OutOfMemory) → EndsAs (course_of e).ending turns count s lost
ended_as turns count lost s (Err trouble.OutOfMemory) t e is running none =
    subst (λ x. EndsAs (course_of x).ending turns count s lost) (some_status status.OutOfMemory e is) (⊎_elim (λ no. inl no) (λ fault. inr (inl fault)) (running trouble.OutOfMemory refl))
ended_as turns count lost s (Err trouble.Failed) (Err refused) e is running none =
    subst (λ x. EndsAs (course_of x).ending turns count s lost) (some_status status.OutOfMemory e is) (inr (inr (no_refusal lost (Err trouble.Failed) refl none)))
ended_as turns count lost s (Err trouble.Failed) (Ok done) e is running none =
    subst (λ x. EndsAs (course_of x).ending turns count s lost) (some_status (behind_disk s status.WireFault) e is)
    (subst (λ o. EndsAs (course_of (behind_disk s status.WireFault)).ending turns count s o) (sym (no_refusal lost (Err trouble.Failed) refl none)) (wire_failed turns count s (running trouble.Failed refl)))
ended_as turns count lost s (Ok enough) (Err refused) e is running none =
    subst (λ x. EndsAs (course_of x).ending turns count s lost) (some_status status.OutOfMemory e is) (inr (inr (no_trouble lost (Ok enough) enough refl none)))
ended_as turns count lost None (Ok enough) (Ok done) e is running none = absurd (cc)
ended_as turns count lost (Some x) (Ok enough) (Ok done) e is running none =
    subst (λ y. EndsAs (course_of y).ending turns count (Some x) lost) (some_status (status_of x) e is)
    (subst (λ o. EndsAs (course_of (status_of x)).ending turns count (Some x) o) (sym (no_trouble lost (Ok enough) enough refl none)) (stopped turns count x))

cause_stopped : (x : Stop) → IsCause (status_of x)
cause_stopped stop.Closed = (tt, λ e. cc)
cause_stopped stop.DiskFault = (tt, λ e. cc)
cause_stopped (stop.Full entries bytes) = (tt, λ e. cc)

cause_wire : (s : Option Stop) → IsCause (behind_disk s status.WireFault)
cause_wire None = (tt, λ e. cc)
cause_wire (Some stop.Closed) = (tt, λ e. cc)
cause_wire (Some stop.DiskFault) = (tt, λ e. cc)
cause_wire (Some (stop.Full entries bytes)) = (tt, λ e. cc)

cause_memory : IsCause status.OutOfMemory
cause_memory = (tt, λ e. cc)

-- no status of theirs comes from the printer or the outbox
pub ended_cause : (s : Option Stop) (g : Result (Unit {0}) Trouble) (t : Result (Unit {0}) OutOfMemory) (e : Status) → ended_with s g t ≡ Some e → IsCause e
ended_cause s (Err trouble.OutOfMemory) t e is = subst IsCause (some_status status.OutOfMemory e is) cause_memory
ended_cause s (Err trouble.Failed) (Err refused) e is = subst IsCause (some_status status.OutOfMemory e is) cause_memory
ended_cause s (Err trouble.Failed) (Ok done) e is = subst IsCause (some_status (behind_disk s status.WireFault) e is) (cause_wire s)
ended_cause s (Ok enough) (Err refused) e is = subst IsCause (some_status status.OutOfMemory e is) cause_memory
ended_cause None (Ok enough) (Ok done) e is = absurd (cc)
ended_cause (Some x) (Ok enough) (Ok done) e is = subst IsCause (some_status (status_of x) e is) (cause_stopped x)

-- where the status isn't for want of memory, none was refused as the entries were sent
pub ended_sent : (s : Option Stop) (g : Result (Unit {0}) Trouble) (t : Result (Unit {0}) OutOfMemory) (e : Status) → ended_with s g t ≡ Some e → (e ≡ status.OutOfMemory) ⊎ ((u : Unit {0}) × (t ≡ Ok u))
ended_sent s (Err trouble.OutOfMemory) t e is = inl (sym (some_status status.OutOfMemory e is))
ended_sent s (Err trouble.Failed) (Err refused) e is = inl (sym (some_status status.OutOfMemory e is))
ended_sent s (Err trouble.Failed) (Ok done) e is = inr (done, refl)
ended_sent s (Ok enough) (Err refused) e is = inl (sym (some_status status.OutOfMemory e is))
ended_sent s (Ok enough) (Ok done) e is = inr (done, refl)

-- what is left where no call of next failed
left_is : (e : Ending) (lost : Option WireEvent) (left : Option (List WireEvent)) (rest : List WireEvent) → left ≡ Some rest → LeftIs e lost left rest
left_is never lost left rest is = is
left_is at_closed lost left rest is = is
left_is at_limit lost left rest is = is
left_is at_wire_fault lost left rest is = tt
left_is at_disk_fault lost left rest is = is
left_is (at_full entries bytes) lost left rest is = is
left_is anywhere lost left rest is = is
left_is at_refusal None left rest is = tt
left_is at_refusal (Some e) left rest is = is

-- what is left behind events that were committed together, by the status
left_by : (w w' : WireTells) (lost : Option WireEvent) (s : Option Stop) (g : Result (Unit {0}) Trouble) (t : Result (Unit {0}) OutOfMemory) (e : Status) → ended_with s g t ≡ Some e → (g ≡ Err trouble.Failed → Rose w.faults w'.faults)
    → (left : Option (List WireEvent)) (rest : List WireEvent) → LeftIs (ending_of g) lost left rest → LeftIs (course_of e).ending lost left rest ⊎ Rose w.faults w'.faults
left_by w w' lost s (Ok enough) t e is fault left rest has = inl (left_is (course_of e).ending lost left rest has)
left_by w w' lost s (Err trouble.Failed) t e is fault left rest has = inr (fault refl)
left_by w w' lost s (Err trouble.OutOfMemory) t e is fault left rest has = inl (subst (λ x. LeftIs (course_of x).ending lost left rest) (some_status status.OutOfMemory e is) has)

-- the last events of a run, by the status
pub took_ends : (limits : Limits) (conf : Conf) (old new : Intake) (did : Doing) (w w' : WireTells) (most count : ℕ) (s : Option Stop) (g : Result (Unit {0}) Trouble) (t : Result (Unit {0}) OutOfMemory) (e : Status)
    → Took limits conf old new did w w' most count s g → ended_with s g t ≡ Some e → (g ≡ Err trouble.Failed → Rose w.faults w'.faults) → Ends limits conf old new did w w' most e
took_ends limits conf old new did w w' most count s g t e took is fault = record {
  count = count;
  stop = s;
  lost = took.lost;
  ending = ending_of g;
  ran = took.ran;
  few = took.few;
  ends = λ turns all. ended_as turns all took.lost s g t e is (running g took.goes_on) took.lost_is;
  left = left_by w w' took.lost s g t e is fault;
}
  where
    running : (g : Result (Unit {0}) Trouble) → OnErr g ((s ≡ None) ⊎ (s ≡ Some stop.DiskFault)) → (r : Trouble) → g ≡ Err r → (s ≡ None) ⊎ (s ≡ Some stop.DiskFault)
    running (Ok enough) why r is = absurd (cc)
    running (Err x) why r is = why

-- a run that goes on: nothing stopped, and nothing failed
pub goes_on_is : (s : Option Stop) (g : Result (Unit {0}) Trouble) (t : Result (Unit {0}) OutOfMemory) → ended_with s g t ≡ None → (s ≡ None) × ((u : Unit {0}) × (g ≡ Ok u)) × ((u : Unit {0}) × (t ≡ Ok u))
goes_on_is s (Err trouble.OutOfMemory) t is = absurd (cc)
goes_on_is s (Err trouble.Failed) (Err refused) is = absurd (cc)
goes_on_is s (Err trouble.Failed) (Ok done) is = absurd (cc)
goes_on_is s (Ok enough) (Err refused) is = absurd (cc)
goes_on_is None (Ok enough) (Ok done) is = (refl, (enough, refl), (done, refl))
goes_on_is (Some x) (Ok enough) (Ok done) is = absurd (cc)

-- the events behind which a run goes on
pub took_on : (limits : Limits) (conf : Conf) (old new : Intake) (did : Doing) (w w' : WireTells) (most count : ℕ) (s : Option Stop) (g : Result (Unit {0}) Trouble) (t : Result (Unit {0}) OutOfMemory)
    → Took limits conf old new did w w' most count s g → ended_with s g t ≡ None
    → Ran (refusing limits 0) conf old.entries old new did w w' count None None anywhere × (count ≤ most) × (0 < most → 0 < count)
took_on limits conf old new did w w' most count s g t took is =
    let on = goes_on_is s g t is in
    by s g took on.0 on.1.0 on.1.1
  where
    by : (s : Option Stop) (g : Result (Unit {0}) Trouble) → Took limits conf old new did w w' most count s g → s ≡ None → (u : Unit {0}) → g ≡ Ok u
        → Ran (refusing limits 0) conf old.entries old new did w w' count None None anywhere × (count ≤ most) × (0 < most → 0 < count)
    by None (Ok enough) took none u is =
        let kept = no_trouble took.lost (Ok enough) enough refl took.lost_is in
        (subst (λ o. Ran (refusing limits 0) conf old.entries old new did w w' count None o anywhere) kept took.ran, omega (arith, took.few), took.some)
    by (Some x) g took none u is = absurd (cc)
    by None (Err r) took none u is = absurd (cc)

-- ---- a run, some events at a time

-- what a run's disk did, behind a base
abbrev doing : Base → DiskTells → DiskTells → Doing
doing base old new = Journals (λ c. ⊥) old new base

-- at the start no event was taken
pub ran_none : (base : Base) (limits : Limits) (conf : Conf) (i : Intake) (disk : DiskTells) (w : WireTells) → IsLawful disk → IsKept disk base i.entries
    → Ran (refusing limits 0) conf i.entries i i (doing base disk disk) w w 0 None None anywhere
ran_none base limits conf i disk w lawful kept = record {
  taken = [];
  count_is = refl;
  given = omega arith;
  told = gave_none w.left;
  entries_are = refl;
  intake_is = λ none all. refl;
  runs_on = λ front last is. absurd (no_last front last is);
  stop_is = refl;
  shows = shows_none w;
  journaled = journals_none disk base (IsReached (refusing limits 0) conf i.entries i []) i.entries lawful (inl refl) kept;
  later = omega arith;
}

module _ (base : Base) (limits : Limits) (conf : Conf) (recovered : List Numbered) (start now new : Intake) (d0 d1 d2 : DiskTells) (w0 w1 w2 : WireTells) (count more : ℕ) (s : Option Stop) (lost : Option WireEvent) (ending : Ending) where
  -- more events behind some that stopped nothing; the disk may have refused a group of theirs
  pub ran_more : Ran (refusing limits 0) conf recovered start now (doing base d0 d1) w0 w1 count None None anywhere
      → Ran (refusing limits (refused_group now s)) conf now.entries now new (doing base d1 d2) w1 w2 more s lost ending
      → Ran (refusing limits (refused_group now s)) conf recovered start new (doing base d0 d2) w0 w2 (count + more) s lost ending
  ran_more r t =
      let n = refused_group now s in
      let l = refusing limits n in
      let is : now ≡ (served (refusing limits 0) conf start r.taken).intake = r.intake_is refl refl in
      let running0 : (served (refusing limits 0) conf start r.taken).stop ≡ None = sym r.stop_is in
      let before : served l conf start r.taken ≡ served (refusing limits 0) conf start r.taken = same_before limits conf start now r.taken s is in
      let running : (served l conf start r.taken).stop ≡ None = ap (λ (x : Served). x.stop) before ∙ running0 in
      let here : now ≡ (served l conf start r.taken).intake = is ∙ ap (λ (x : Served). x.intake) (sym before) in
      let so_far = served (refusing limits 0) conf start r.taken in
      let all : served l conf start (r.taken ++ t.taken) ≡ behind so_far.replies so_far.shut (served l conf now t.taken) =
      served_then l conf start now r.taken t.taken running here ∙ ap (λ (x : Served). behind x.replies x.shut (served l conf now t.taken)) before in
      record {
        taken = r.taken ++ t.taken;
        count_is = omega (arith, r.count_is, t.count_is, length-append r.taken t.taken);
        given = omega (arith, t.given, r.given);
        told = gave_both ending lost w0.left w1.left w2.left r.taken t.taken r.told t.told;
        entries_are = t.entries_are ∙ sym (ap (λ (x : Served). x.intake.entries) all);
        intake_is = λ none kept. t.intake_is none kept ∙ sym (ap (λ (x : Served). x.intake) all);
        runs_on = runs_on_both limits conf start now r.taken t.taken running0 is r.runs_on t.runs_on;
        stop_is = t.stop_is ∙ sym (ap (λ (x : Served). x.stop) all);
        shows = subst (λ (x : Served). Shows w0 w2 x.replies x.shut) (sym all)
            (shows_both w0 w1 w2 so_far.replies (served l conf now t.taken).replies so_far.shut (served l conf now t.taken).shut r.shows t.shows);
        journaled = journals_on (λ c. ⊥) d0 d1 d2 base (IsReached (refusing limits 0) conf recovered start r.taken)
            (IsReached l conf now.entries now t.taken) (IsReached l conf recovered start (r.taken ++ t.taken)) None s now.entries new.entries
            (reached_before limits conf recovered start r.taken t.taken n before (same_front limits conf start now r.taken s is))
            (reached_then limits conf recovered start r.taken t.taken n before now is running0) r.journaled t.journaled;
        later = omega (arith, r.later, t.later);
      }

-- more events that stop nothing
pub ran_on : (base : Base) (limits : Limits) (conf : Conf) (recovered : List Numbered) (start now new : Intake) (d0 d1 d2 : DiskTells) (w0 w1 w2 : WireTells) (count more : ℕ)
    → Ran (refusing limits 0) conf recovered start now (doing base d0 d1) w0 w1 count None None anywhere → (l : Limits) → l ≡ limits → (k : Conf) → k ≡ conf → Ran (refusing l 0) k now.entries now new (doing base d1 d2) w1 w2 more None None anywhere
    → Ran (refusing limits 0) conf recovered start new (doing base d0 d2) w0 w2 (count + more) None None anywhere
ran_on base limits conf recovered start now new d0 d1 d2 w0 w1 w2 count more r l same k is t =
    ran_more base limits conf recovered start now new d0 d1 d2 w0 w1 w2 count more None None anywhere r
    (subst (λ (x : Limits). Ran (refusing x 0) conf now.entries now new (doing base d1 d2) w1 w2 more None None anywhere) same
    (subst (λ (x : Conf). Ran (refusing l 0) x now.entries now new (doing base d1 d2) w1 w2 more None None anywhere) is t))

-- a run that took its events
pub finish : (base : Base) (limits : Limits) (conf : Conf) (recovered : List Numbered) (start now : Intake) (d0 d1 : DiskTells) (w0 w1 : WireTells) (count turns n : ℕ) (s : Option Stop) (lost : Option WireEvent) (ending e : Ending)
    → Ran (refusing limits n) conf recovered start now (doing base d0 d1) w0 w1 count s lost ending → (n ≡ 0) ⊎ (s ≡ Some stop.DiskFault) → count + length (option_to_list lost) ≤ turns → EndsAs e turns count s lost
    → ((left : Option (List WireEvent)) (rest : List WireEvent) → LeftIs ending lost left rest → LeftIs e lost left rest ⊎ Rose w0.faults w1.faults)
    → Finished limits conf recovered start now.entries turns (doing base d0 d1) w0 w1 e
finish base limits conf recovered start now d0 d1 w0 w1 count turns n s lost ending e r why few ends left = record {
  handled = r.taken;
  lost = lost;
  refused = n;
  runs_on = r.runs_on;
  few = omega (arith, r.count_is, few);
  given = omega (arith, r.count_is, r.given);
  told = told w0.left r.told;
  entries_are = r.entries_are;
  ends = subst (λ k. EndsAs e turns k (served (refusing limits n) conf start r.taken).stop lost) r.count_is (subst (λ o. EndsAs e turns count o lost) r.stop_is ends);
  refused_is = subst (λ o. (n ≡ 0) ⊎ (o ≡ Some stop.DiskFault)) r.stop_is why;
  shows = r.shows;
  journaled = subst (λ o. doing base d0 d1 (IsReached (refusing limits n) conf recovered start r.taken) o now.entries) r.stop_is r.journaled;
}
  where
    told : (o : Option (List WireEvent)) → Gave o w1.left r.taken lost ending
        → IfSome o (λ all. (rest : List WireEvent) × (all ≡ r.taken ++ (option_to_list lost ++ rest)) × (LeftIs e lost w1.left rest ⊎ Rose w0.faults w1.faults))
    told None t = tt
    told (Some all) t = (t.0, t.1, left w1.left t.0 t.2)

-- a run whose last events didn't stop it
pub finish_on : (base : Base) (limits : Limits) (conf : Conf) (recovered : List Numbered) (start now : Intake) (d0 d1 : DiskTells) (w0 w1 : WireTells) (count turns : ℕ) (e : Ending)
    → Ran (refusing limits 0) conf recovered start now (doing base d0 d1) w0 w1 count None None anywhere → count ≤ turns → EndsAs e turns count None None
    → Finished limits conf recovered start now.entries turns (doing base d0 d1) w0 w1 e
finish_on base limits conf recovered start now d0 d1 w0 w1 count turns e r few ends =
    finish base limits conf recovered start now d0 d1 w0 w1 count turns 0 None None anywhere e r (inl refl) (omega (arith, few)) ends (λ left rest has. inl (left_is e None left rest has))

-- a run that ends behind events that were committed together
pub finish_with : (base : Base) (limits : Limits) (conf : Conf) (recovered : List Numbered) (start now new : Intake) (d0 d1 d2 : DiskTells) (w0 w1 w2 : WireTells) (count most turns : ℕ) (e : Status)
    → Ran (refusing limits 0) conf recovered start now (doing base d0 d1) w0 w1 count None None anywhere → (l : Limits) → l ≡ limits → (k : Conf) → k ≡ conf → Ends l k now new (doing base d1 d2) w1 w2 most e
    → count + most ≤ turns → w0.faults ≤ w1.faults → Finished limits conf recovered start new.entries turns (doing base d0 d2) w0 w2 (course_of e).ending
finish_with base limits conf recovered start now new d0 d1 d2 w0 w1 w2 count most turns e r l same k is t few later =
    let x : Ends limits conf now new (doing base d1 d2) w1 w2 most e = subst (λ (x : Limits). Ends x conf now new (doing base d1 d2) w1 w2 most e) same (subst (λ (x : Conf). Ends l x now new (doing base d1 d2) w1 w2 most e) is t) in
    finish base limits conf recovered start new d0 d2 w0 w2 (count + x.count) turns (refused_group now x.stop) x.stop x.lost x.ending (course_of e).ending
    (ran_more base limits conf recovered start now new d0 d1 d2 w0 w1 w2 count x.count x.stop x.lost x.ending r x.ran) (refused_is now x.stop) (omega (arith, few, x.few)) (x.ends turns (count + x.count))
    (λ left rest has. ⊎_elim (λ is. inl is) (λ rose. inr (omega (arith, later, rose))) (x.left left rest has))

-- a journal that is ready has the limits of the one before
pub limits_kept : {D : Type 0} (old new : Journaled D) → IsReady old new → limits_of new 0 ≡ limits_of old 0
limits_kept old new ready = ap₂ limits_at ready.1 ready.2
  where
    limits_at : ℕ → ℕ → Limits
    limits_at a b = record { max_entries = a; max_bytes = b; stop = 0 }

pub ready_on : {D : Type 0} (a b c : Journaled D) → IsReady a b → IsReady b c → IsReady a c
ready_on a b c p q = (q.0, q.1 ∙ p.1, q.2 ∙ p.2)
