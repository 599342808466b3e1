-- Laws of the taking of events behind what a run had done.
use Rattle.entry_step.specs.Start.{Start}
use Rattle.std.proofs.Common.{◌≡◌, ◌⊎◌, ⊎_elim, ℕ, ◌+◌, ◌-◌, ◌≤◌, ◌<◌, List, [], ◌++◌, append-nil, refl, sym, ap, ◌∙◌, subst, arith, inl, inr, length, drop, true≢false}
use Rattle.std.specs.Prelude.{Option, Some, None, IfSome, Result, Ok, Err, OnOk, true, false}
use Rattle.std.specs.Option.{option_to_list}
use mathlib.Core.List.{IsPrefix}
use Rattle.outside.specs.Disk.{DiskTells, IsLawful}
use Rattle.zbx_types.specs.declared.base.Base.{Base}
use Rattle.zbx_types.specs.declared.conf.Conf.{Conf}
use Rattle.zbx_types.specs.declared.entries.Numbered.{Numbered}
use Rattle.zbx_types.specs.declared.memory.OutOfMemory.{OutOfMemory}
use Rattle.outside.specs.Causes.{Rose}
use Rattle.outside.specs.Tells.{SinkTells, WireTells}
use Rattle.outside.specs.declared.event.WireEvent.{WireEvent}
use Rattle.outside.specs.declared.event.Trouble.{Trouble}
use Rattle.book.specs.Ends.{HeadView}
use Rattle.book.specs.Entries.{IsWholeLog}
use Rattle.base_laws.specs.Grounds.{start_of}
use Rattle.book_opening.specs.Outgoing.{IsMendable, log_lines}
use Rattle.book_opening.specs.declared.errors.BookError.{BookError}
use Rattle.book_opening.specs.declared.errors.BookError.TheVariants as refusal
use Rattle.entry_step.specs.Each.{Each}
use Rattle.entry_laws.specs.InForce.{IsPlain, FitsLog, HasBegun, conf_behind, behind_all, IsFull}
use Rattle.entry_step.specs.Log.{log_of}
use Rattle.entry_step.proofs.Members.{each_append}
use Rattle.intake_front.specs.Batch.{IsIdle}
use Rattle.intake_front.specs.Intake.{Limits, Intake, IsSound}
use Rattle.intake_front.specs.Fronted.{Fronted, IsKept, IsReady, limits_of, refused_group}
use Rattle.intake_front.specs.declared.answer.Stop.{Stop}
use Rattle.server_words.specs.declared.status.Status.{Status}
use Rattle.server_words.specs.declared.status.Status.TheVariants as status
use Rattle.server_run.specs.declared.course.Course.{Course}
use Rattle.server_run.specs.declared.serving.Taken.{Taken}
use Rattle.server_run.specs.declared.serving.Taken.TheVariants as taken
use Rattle.server_run.specs.Events.{Doing, Ran, Took, Ends, ending_of}
use Rattle.server_run.specs.Going.{Reaches, TakesOn, IsServing, HasServed, IsEndedAt, IsSentAt, IsCause, IsJoined, IsWorse, IsOpened, IsBookless, HasGone, book_status}
use Rattle.server_run.specs.Outbox.{LinesAre}
use Rattle.journal_opening.specs.Outbox.{IsBehind, IsAhead, IsOther}
use Rattle.journal_opening.specs.Tally.{counts_over}
use Rattle.server_run.specs.Runs.{Finished}
use Rattle.server_run.specs.Statuses.{at_limit, anywhere, at_refusal, course_of, ended_with, EndsAs, LeftIs, IsCourse, IsUnprinted}
use Rattle.server_run.specs.Stops.{refusing}
use Rattle.journal_opening.specs.Journals.{Journals}
use Rattle.server_run.proofs.Events.{ran_grows, ran_none, ran_on, finish_on, finish_with, goes_on_is, no_trouble, ended_sent, limits_kept}
use Rattle.book.proofs.Numbers.{whole_of}
use Rattle.server_run.proofs.Logs.{behind_old, behind_sent, sent_front}
use Rattle.server_run.proofs.Runs.{finished_refused, is_ending}

-- ---- what is sent

pub sent_whole : (kept sent entries : List Numbered) (s : Status) → kept ++ sent ≡ entries → IsSentAt kept sent entries s
sent_whole kept sent entries status.OutOfMemory is = ([], append-nil (kept ++ sent) ∙ is)
sent_whole kept sent entries _ is = is

pub sent_prefix : (kept sent entries : List Numbered) (s : Status) → IsSentAt kept sent entries s → IsPrefix (kept ++ sent) entries
sent_prefix kept sent entries status.OutOfMemory is = is
sent_prefix kept sent entries _ is = ([], append-nil (kept ++ sent) ∙ is)

pub sent_all : (kept sent entries : List Numbered) (s : Status) → IsSentAt kept sent entries s → (s ≡ status.OutOfMemory → ⊥) → kept ++ sent ≡ entries
sent_all kept sent entries status.OutOfMemory is other = absurd (other refl)
sent_all kept sent entries _ is other = is

-- what is sent by a status is sent by a worse one
pub sent_worse : (kept sent entries : List Numbered) (s t : Status) → IsWorse s t → IsSentAt kept sent entries s → IsSentAt kept sent entries t
sent_worse kept sent entries s t (inl same) is = subst (IsSentAt kept sent entries) (sym same) is
sent_worse kept sent entries s t (inr (inl spent)) is = subst (IsSentAt kept sent entries) (sym spent) (sent_prefix kept sent entries s is)
sent_worse kept sent entries s t (inr (inr (fault, other))) is = subst (IsSentAt kept sent entries) (sym fault) (sent_all kept sent entries s is other)

-- ---- what some events send that are committed together

pub took_as : (limits : Limits) (k conf : Conf) (old new : Intake) (did : Doing) (w w' : WireTells) (most count : ℕ) (s : Option Stop) (g : Result (Unit {0}) Trouble) → k ≡ conf → Took limits k old new did w w' most count s g
    → Took limits conf old new did w w' most count s g
took_as limits k conf old new did w w' most count s g same took = subst (λ (x : Conf). Took limits x old new did w w' most count s g) same took

module _ (limits : Limits) (k conf : Conf) (same : k ≡ conf) (old new : Intake) (did : Doing) (w w' : WireTells) (most count : ℕ) (s : Option Stop) (g : Result (Unit {0}) Trouble) (took : Took limits k old new did w w' most count s g)
    (flat : List ℕ → Conf) (ground : Start) (sound : IsSound flat ground conf old) (kept sent : List Numbered) (begun : HasBegun ground (log_of kept)) (plain : Each IsPlain sent) (is : kept ++ sent ≡ old.entries) (n : ℕ) (size : n ≡ length old.entries) where
  here : Took limits conf old new did w w' most count s g
  here = subst (λ (x : Conf). Took limits x old new did w w' most count s g) same took

  grown : (more : List Numbered) × (new.entries ≡ old.entries ++ more) × Each IsPlain more
  grown = ran_grows (refusing limits (refused_group old s)) conf old.entries old new did w w' count s here.lost (ending_of g) here.ran

  -- with their entries all are sent
  batch_all : kept ++ (sent ++ drop n new.entries) ≡ new.entries
  batch_all = behind_sent kept sent old.entries new.entries n grown.0 is size grown.1

  -- and none is a Config
  batch_plain : Each IsPlain (sent ++ drop n new.entries)
  batch_plain = each_append IsPlain sent (drop n new.entries) plain (subst (Each IsPlain) (sym (behind_old old.entries new.entries n grown.0 size grown.1)) grown.2)

  -- so they are a whole log behind what the kept entries leave
  pub batch_whole : (start : Start) → start ≡ behind_all flat ground (log_of kept) → IsWholeLog start (sent ++ drop n new.entries)
  batch_whole start first =
      let i = here.sound flat ground sound in
      let entries : kept ++ (sent ++ drop n new.entries) ≡ i.0.entries = batch_all ∙ i.2 in
      whole_of flat ground kept (sent ++ drop n new.entries) start first begun batch_plain (subst (λ es. IsFull ground (log_of es)) (sym entries) i.1.full) (subst (λ es. FitsLog flat ground (log_of es)) (sym entries) i.1.fits)

  module _ (t : Result (Unit {0}) OutOfMemory) (sent' : List Numbered) (all : OnOk t (sent' ≡ sent ++ drop n new.entries)) (front : IsPrefix sent' (sent ++ drop n new.entries)) where
    sent_is : (u : Unit {0}) → t ≡ Ok u → sent' ≡ sent ++ drop n new.entries
    sent_is u well = subst (λ r. OnOk r (sent' ≡ sent ++ drop n new.entries)) well all

    sent_ok : (u : Unit {0}) → t ≡ Ok u → kept ++ sent' ≡ new.entries
    sent_ok u well = ap (λ l. kept ++ l) (sent_is u well) ∙ batch_all

    -- where the run goes on, and it serves
    pub batch_on : ended_with s g t ≡ None → (kept ++ sent' ≡ new.entries) × IsSound flat ground conf new × Each IsPlain sent'
    batch_on on =
        let why = goes_on_is s g t on in
        let i = here.sound flat ground sound in
        let kept_is : here.lost ≡ None = lost_none g here why.1.0 why.1.1 in
        (sent_ok why.2.0 why.2.1, subst (IsSound flat ground conf) (sym (i.3 why.0 kept_is)) i.1, subst (Each IsPlain) (sym (sent_is why.2.0 why.2.1)) batch_plain)
      where
        lost_none : (x : Result (Unit {0}) Trouble) (h : Took limits conf old new did w w' most count s x) (u : Unit {0}) → x ≡ Ok u → h.lost ≡ None
        lost_none (Ok enough) h u same = no_trouble h.lost (Ok enough) enough refl h.lost_is
        lost_none (Err e) h u same = absurd (cc)

    -- where it ends
    pub batch_ended : (e : Status) → ended_with s g t ≡ Some e → IsSentAt kept sent' new.entries e
    batch_ended e ends = ⊎_elim
        (λ spent. subst (IsSentAt kept sent' new.entries) (sym spent) (sent_front kept sent' (sent ++ drop n new.entries) new.entries front batch_all))
        (λ well. sent_whole kept sent' new.entries e (sent_ok well.0 well.1)) (ended_sent s g t e ends)

-- ---- worse endings

-- no event was lost where an ending isn't for want of memory
none_lost : (s : Status) (turns count : ℕ) (stop : Option Stop) (lost : Option WireEvent) → (s ≡ status.OutOfMemory → ⊥) → EndsAs (course_of s).ending turns count stop lost → lost ≡ None
none_lost status.Ok turns count stop lost other ends = ends.1
none_lost status.PrintFault turns count stop lost other ends = ends.1
none_lost status.TurnLimit turns count stop lost other ends = ends.2
none_lost status.WireFault turns count stop lost other ends = ends.1
none_lost status.OutboxFault turns count stop lost other ends = ends
none_lost status.OutOfMemory turns count stop lost other ends = absurd (other refl)
none_lost status.DiskFault turns count stop lost other ends = ends.1
none_lost (status.Full entries bytes) turns count stop lost other ends = ends.1
none_lost _ turns count stop lost other none = absurd none

-- what is left, where no call of next failed
left_anywhere : (s : Status) (lost : Option WireEvent) (left : Option (List WireEvent)) (rest : List WireEvent) (turns count : ℕ) (stop : Option Stop) → EndsAs (course_of s).ending turns count stop lost → (s ≡ status.OutOfMemory → ⊥) → (s ≡ status.WireFault → ⊥)
    → LeftIs (course_of s).ending lost left rest → LeftIs anywhere lost left rest
left_anywhere status.Ok lost left rest turns count stop ends other well is = is
left_anywhere status.PrintFault lost left rest turns count stop ends other well is = is
left_anywhere status.TurnLimit lost left rest turns count stop ends other well is = is
left_anywhere status.WireFault lost left rest turns count stop ends other well is = absurd (well refl)
left_anywhere status.OutboxFault lost left rest turns count stop ends other well is = is
left_anywhere status.OutOfMemory lost left rest turns count stop ends other well is = absurd (other refl)
left_anywhere status.DiskFault lost left rest turns count stop ends other well is = is
left_anywhere (status.Full entries bytes) lost left rest turns count stop ends other well is = is
left_anywhere _ lost left rest turns count stop none other well is = absurd none

is_wire : (s : Status) → (s ≡ status.WireFault) ⊎ (s ≡ status.WireFault → ⊥)
is_wire status.WireFault = inl refl
is_wire status.Ok = inr (λ e. cc)
is_wire status.PrintFault = inr (λ e. cc)
is_wire status.TurnLimit = inr (λ e. cc)
is_wire status.OutboxFault = inr (λ e. cc)
is_wire status.OutOfMemory = inr (λ e. cc)
is_wire status.DiskFault = inr (λ e. cc)
is_wire (status.Full entries bytes) = inr (λ e. cc)
is_wire status.Usage = inr (λ e. cc)
is_wire status.SourceFault = inr (λ e. cc)
is_wire (status.ConfigRefused path cause) = inr (λ e. cc)
is_wire (status.PatternRefused path) = inr (λ e. cc)
is_wire (status.PatternTooLarge path) = inr (λ e. cc)
is_wire status.NotOurs = inr (λ e. cc)
is_wire (status.Damaged at) = inr (λ e. cc)
is_wire (status.OutboxAhead held lines) = inr (λ e. cc)
is_wire (status.OutboxDiffers at) = inr (λ e. cc)
is_wire (status.BadLine at) = inr (λ e. cc)
is_wire (status.MediaRefused path) = inr (λ e. cc)
is_wire (status.MarksAhead marks messages) = inr (λ e. cc)
is_wire status.LinesTooLong = inr (λ e. cc)
is_wire (status.OutboxBehind held base) = inr (λ e. cc)
is_wire status.Unfinished = inr (λ e. cc)
is_wire (status.NotEmpty bytes) = inr (λ e. cc)
is_wire status.NoEntries = inr (λ e. cc)

-- a run that ended is one whose outbox failed
finished_fault : (limits : Limits) (conf : Conf) (recovered : List Numbered) (begun : Intake) (entries : List Numbered) (turns : ℕ) (did : Doing) (w w' : WireTells) (s : Status) → (s ≡ status.OutOfMemory → ⊥)
    → (s ≡ status.WireFault → Rose w.faults w'.faults) → Finished limits conf recovered begun entries turns did w w' (course_of s).ending → Finished limits conf recovered begun entries turns did w w' anywhere
finished_fault limits conf recovered begun entries turns did w w' s other wire f = record {
  handled = f.handled;
  lost = f.lost;
  refused = f.refused;
  runs_on = f.runs_on;
  few = f.few;
  given = f.given;
  told = told w.left f.told;
  entries_are = f.entries_are;
  ends = none_lost s turns _ _ f.lost other f.ends;
  refused_is = f.refused_is;
  shows = f.shows;
  journaled = f.journaled;
}
  where
    told : (left : Option (List WireEvent)) → IfSome left (λ all. (rest : List WireEvent) × (all ≡ f.handled ++ (option_to_list f.lost ++ rest)) × (LeftIs (course_of s).ending f.lost w'.left rest ⊎ Rose w.faults w'.faults))
        → IfSome left (λ all. (rest : List WireEvent) × (all ≡ f.handled ++ (option_to_list f.lost ++ rest)) × (LeftIs anywhere f.lost w'.left rest ⊎ Rose w.faults w'.faults))
    told None t = tt
    told (Some all) t = (t.0, t.1, ⊎_elim (λ is. ⊎_elim (λ fault. inr (wire fault)) (λ well. inl (left_anywhere s f.lost w'.left t.0 turns _ _ f.ends other well is)) (is_wire s)) (λ rose. inr rose) t.2)

pub finished_worse : (limits : Limits) (conf : Conf) (recovered : List Numbered) (begun : Intake) (entries : List Numbered) (turns : ℕ) (did : Doing) (w w' : WireTells) (s t : Status) → IsWorse s t
    → (s ≡ status.WireFault → Rose w.faults w'.faults) → Finished limits conf recovered begun entries turns did w w' (course_of s).ending → Finished limits conf recovered begun entries turns did w w' (course_of t).ending
finished_worse limits conf recovered begun entries turns did w w' s t (inl same) wire f = subst (λ x. Finished limits conf recovered begun entries turns did w w' (course_of x).ending) (sym same) f
finished_worse limits conf recovered begun entries turns did w w' s t (inr (inl spent)) wire f =
    subst (λ x. Finished limits conf recovered begun entries turns did w w' (course_of x).ending) (sym spent) (finished_refused limits conf recovered begun entries turns did w w' (course_of s).ending f)
finished_worse limits conf recovered begun entries turns did w w' s t (inr (inr (fault, other))) wire f =
    subst (λ x. Finished limits conf recovered begun entries turns did w w' (course_of x).ending) (sym fault) (finished_fault limits conf recovered begun entries turns did w w' s other wire f)

-- a run that took events has a status of one that has begun
pub course_taken : (limits : Limits) (conf : Conf) (recovered : List Numbered) (begun : Intake) (entries : List Numbered) (turns : ℕ) (did : Doing) (w w' : WireTells) (s : Status) → Finished limits conf recovered begun entries turns did w w' (course_of s).ending → IsCourse s
course_taken limits conf recovered begun entries turns did w w' s f = is_ending (course_of s).ending turns _ _ f.lost f.ends

-- why a run got no book, by what its book answered
pub bookless : (before : ℕ) (lines : List ℕ) (outbox outbox' : SinkTells) (error : BookError) → ((h b : ℕ) → error ≡ refusal.OutboxBehind h b → IsBehind outbox before h b) → ((h l : ℕ) → error ≡ refusal.OutboxAhead h l → IsAhead outbox before lines h l)
    → ((at : ℕ) → error ≡ refusal.OutboxDiffers at → IsOther outbox before lines at) → (error ≡ refusal.OutboxFault → Rose outbox.faults outbox'.faults) → IsBookless before lines outbox outbox' (book_status error)
bookless before lines outbox outbox' (refusal.OutboxBehind h b) behind ahead differs cause = behind h b refl
bookless before lines outbox outbox' (refusal.OutboxAhead h l) behind ahead differs cause = ahead h l refl
bookless before lines outbox outbox' (refusal.OutboxDiffers at) behind ahead differs cause = differs at refl
bookless before lines outbox outbox' refusal.OutboxFault behind ahead differs cause = cause refl
bookless before lines outbox outbox' refusal.OutOfMemory behind ahead differs cause = tt

-- ---- a run, part by part

module _ {D : Type 0} (tells : D → DiskTells) (base : Base) where
  abbrev doing : D → D → Doing
  doing old new = Journals (λ c. ⊥) (tells old) (tells new) base

  abbrev At : Limits → Conf → List Numbered → Intake → Intake → D → D → WireTells → WireTells → ℕ → Type 0
  At limits conf recovered start now d0 d w0 w count = Reaches tells base limits conf recovered start now d0 d w0 w count

  -- at the start no event was taken
  pub at_start : (limits : Limits) (conf : Conf) (i : Intake) (disk : D) (w : WireTells) → IsLawful (tells disk) → IsKept (tells disk) base i.entries → At limits conf i.entries i i disk disk w w 0
  at_start limits conf i disk w lawful kept = record { ran = ran_none base limits conf i (tells disk) w lawful kept; later = omega arith }

  module _ (limits : Limits) (conf : Conf) (recovered : List Numbered) (start now : Intake) (d0 d1 : D) (w0 w1 : WireTells) (count n : ℕ) (r : At limits conf recovered start now d0 d1 w0 w1 (count + n)) where
    -- more events, behind which the run goes on
    pub at_more : (new : Intake) (d2 : D) (w2 : WireTells) (more : ℕ) (l : Limits) → l ≡ limits → (own : Base) → own ≡ base → Ran (refusing l 0) conf now.entries now new (Journals (λ c. ⊥) (tells d1) (tells d2) own) w1 w2 more None None anywhere
        → w1.faults ≤ w2.faults → At limits conf recovered start new d0 d2 w0 w2 (count + (n + more))
    at_more new d2 w2 more l same own is t later =
        let here = subst (λ (b : Base). Ran (refusing l 0) conf now.entries now new (Journals (λ c. ⊥) (tells d1) (tells d2) b) w1 w2 more None None anywhere) is t in
        let all = ran_on base limits conf recovered start now new (tells d0) (tells d1) (tells d2) w0 w1 w2 (count + n) more r.ran l same conf refl here in
        let sum : (count + n) + more ≡ count + (n + more) = omega arith in
        record { ran = subst (λ k. Ran (refusing limits 0) conf recovered start new (doing d0 d2) w0 w2 k None None anywhere) sum all; later = omega (arith, r.later, later) }

    -- as many as are allowed were taken
    pub at_limit_of : (turns : ℕ) → n ≡ turns → Finished limits conf recovered start now.entries (count + turns) (doing d0 d1) w0 w1 at_limit
    at_limit_of turns is = finish_on base limits conf recovered start now (tells d0) (tells d1) w0 w1 (count + n) (count + turns) at_limit r.ran (omega (arith, is)) (omega (arith, is), refl, refl)

    -- or memory was refused
    pub at_refusal_of : (turns : ℕ) → n ≤ turns → Finished limits conf recovered start now.entries (count + turns) (doing d0 d1) w0 w1 at_refusal
    at_refusal_of turns few = finish_on base limits conf recovered start now (tells d0) (tells d1) w0 w1 (count + n) (count + turns) at_refusal r.ran (omega (arith, few)) (inl refl)

    -- or the outbox failed
    pub at_fault_of : (turns : ℕ) → n ≤ turns → Finished limits conf recovered start now.entries (count + turns) (doing d0 d1) w0 w1 anywhere
    at_fault_of turns few = finish_on base limits conf recovered start now (tells d0) (tells d1) w0 w1 (count + n) (count + turns) anywhere r.ran (omega (arith, few)) refl

    -- or the last events ended it
    pub at_end : (new : Intake) (d2 : D) (w2 : WireTells) (most turns : ℕ) (e : Status) (l : Limits) → l ≡ limits → (own : Base) → own ≡ base → Ends l conf now new (Journals (λ c. ⊥) (tells d1) (tells d2) own) w1 w2 most e → n + most ≤ turns
        → Finished limits conf recovered start new.entries (count + turns) (doing d0 d2) w0 w2 (course_of e).ending
    at_end new d2 w2 most turns e l same own is t few =
        let here = subst (λ (b : Base). Ends l conf now new (Journals (λ c. ⊥) (tells d1) (tells d2) b) w1 w2 most e) is t in
        finish_with base limits conf recovered start now new (tells d0) (tells d1) (tells d2) w0 w1 w2 (count + n) most (count + turns) e r.ran l same conf refl here (omega (arith, few)) r.later

  -- ---- what somebody else made of it

  module _ (flat : List ℕ → Conf) (conf : Conf) (kept : List Numbered) (old mid : Fronted D) (w0 w1 : WireTells) (head : HeadView) (turns : ℕ) where
    abbrev Served : Taken → Type 0
    Served t = HasServed tells flat base conf kept old mid w0 w1 head turns t

    -- want of memory beside it ends the taking of events
    spent : (t : Taken) → Served t → Served (taken.Ended status.OutOfMemory)
    spent (taken.Ended s) h = record {
      later = h.later;
      takes = λ recovered start d0 w count r. finished_refused (limits_of old.journal 0) conf recovered start mid.intake.entries (count + turns) (doing d0 mid.journal.disk) w w1 (course_of s).ending (h.takes recovered start d0 w count r);
      served = (
        record { idle = h.served.0.idle; sent = sent_prefix kept head.sent mid.intake.entries s h.served.0.sent; unprinted = tt; wire = λ e. cc },
        (tt, λ e. cc),
      );
    }
    spent (taken.Going n) h = record {
      later = h.later;
      takes = λ recovered start d0 w count r. at_refusal_of (limits_of old.journal 0) conf recovered start mid.intake d0 mid.journal.disk w w1 count n (h.takes.1 recovered start d0 w count r) turns h.takes.0;
      served = (
        record { idle = h.served.0.idle; sent = sent_whole kept head.sent mid.intake.entries status.OutOfMemory h.served.0.sent; unprinted = tt; wire = λ e. cc },
        (tt, λ e. cc),
      );
    }

    pub joined : (t u : Taken) → IsJoined t u → Served t → Served u
    joined t u (inl same) h = subst Served (sym same) h
    joined t u (inr is) h = subst Served (sym is) (spent t h)

    -- where the outbox failed too
    pub ended_worse : (s t : Status) → IsWorse s t → IsEndedAt kept mid w0 w1 head s → IsEndedAt kept mid w0 w1 head t
    ended_worse s t (inl same) h = subst (IsEndedAt kept mid w0 w1 head) (sym same) h
    ended_worse s t (inr (inl is)) h =
        subst (IsEndedAt kept mid w0 w1 head) (sym is) (record { idle = h.idle; sent = sent_prefix kept head.sent mid.intake.entries s h.sent; unprinted = tt; wire = λ e. cc })
    ended_worse s t (inr (inr (is, other))) h =
        subst (IsEndedAt kept mid w0 w1 head) (sym is) (record { idle = h.idle; sent = sent_all kept head.sent mid.intake.entries s h.sent other; unprinted = tt; wire = λ e. cc })

  -- ---- events that are taken beside syncers, and behind them

  module _ (flat : List ℕ → Conf) (conf : Conf) (kept : List Numbered) (old mid : Fronted D) (w0 w1 : WireTells) (head : HeadView) (turns : ℕ) where
    abbrev Ends_as : Status → Type 0
    Ends_as s = TakesOn tells base conf old mid w0 w1 turns (taken.Ended s)

    -- a fault of the outbox stands before what ended them
    pub takes_worse : (s t : Status) → IsWorse s t → (s ≡ status.WireFault → Rose w0.faults w1.faults) → Ends_as s → Ends_as t
    takes_worse s t worse wire takes = λ recovered start d0 w count r.
        finished_worse (limits_of old.journal 0) conf recovered start mid.intake.entries (count + turns) (doing d0 mid.journal.disk) w w1 s t worse (λ is. omega (arith, r.later, wire is)) (takes recovered start d0 w count r)

    -- or ends them
    pub takes_fault : (n : ℕ) → HasServed tells flat base conf kept old mid w0 w1 head turns (taken.Going n) → Ends_as status.OutboxFault
    takes_fault n h = λ recovered start d0 w count r.
        at_fault_of (limits_of old.journal 0) conf recovered start mid.intake d0 mid.journal.disk w w1 count n (h.takes.1 recovered start d0 w count r) turns h.takes.0

    pub fault_ended : IsServing flat base conf kept mid head → IsEndedAt kept mid w0 w1 head status.OutboxFault
    fault_ended s = record { idle = s.idle; sent = s.sent; unprinted = tt; wire = λ e. cc }

    -- more are taken on one thread, behind those that the syncers had
    module _ (new : Fronted D) (w2 : WireTells) (head' : HeadView) (n : ℕ) (h : HasServed tells flat base conf kept old mid w0 w1 head turns (taken.Going n)) (s : Status) where
      pub takes_then : TakesOn tells base conf mid new w1 w2 (turns - n) (taken.Ended s) → TakesOn tells base conf old new w0 w2 turns (taken.Ended s)
      takes_then then = λ recovered start d0 w count r.
          let before = h.takes.1 recovered start d0 w count r in
          let same : limits_of mid.journal 0 ≡ limits_of old.journal 0 = limits_kept old.journal mid.journal h.served.1 in
          let sum : (count + n) + (turns - n) ≡ count + turns = omega (arith, h.takes.0) in
          let there = subst (λ (l : Limits). At l conf recovered start mid.intake d0 mid.journal.disk w w1 (count + n)) (sym same) before in
          subst (λ m. Finished (limits_of old.journal 0) conf recovered start new.intake.entries m (doing d0 new.journal.disk) w w2 (course_of s).ending) sum
          (subst (λ (l : Limits). Finished l conf recovered start new.intake.entries ((count + n) + (turns - n)) (doing d0 new.journal.disk) w w2 (course_of s).ending) same (then recovered start d0 w (count + n) there))

      pub ended_then : IsEndedAt kept new w1 w2 head' s → IsEndedAt kept new w0 w2 head' s
      ended_then e = record { idle = e.idle; sent = e.sent; unprinted = e.unprinted; wire = λ is. omega (arith, h.later, e.wire is) }

  -- none more
  pub at_none : (limits : Limits) (conf : Conf) (recovered : List Numbered) (start now : Intake) (d0 d1 : D) (w0 w1 : WireTells) (count : ℕ) → At limits conf recovered start now d0 d1 w0 w1 count → At limits conf recovered start now d0 d1 w0 w1 (count + 0)
  at_none limits conf recovered start now d0 d1 w0 w1 count r = let same : count ≡ count + 0 = omega arith in subst (λ k. At limits conf recovered start now d0 d1 w0 w1 k) same r

  -- where nobody takes events, none is taken
  pub served_none : (flat : List ℕ → Conf) (conf : Conf) (kept : List Numbered) (front : Fronted D) (w : WireTells) (head : HeadView) (turns : ℕ) → IsServing flat base conf kept front head
      → HasServed tells flat base conf kept front front w w head turns (taken.Going 0)
  served_none flat conf kept front w head turns s = record {
    later = omega arith;
    takes = (omega arith, λ recovered start d0 w0 count r. at_none (limits_of front.journal 0) conf recovered start front.intake d0 front.journal.disk w0 w count r);
    served = (s, (s.going, refl, refl));
  }

  -- ---- how the taking of events ends

  -- what a run has done that took so many events since it was like this
  abbrev Since : Conf → Fronted D → Fronted D → WireTells → WireTells → ℕ → Type 0
  Since conf old now w w1 n = (recovered : List Numbered) (start : Intake) (d0 : D) (w0 : WireTells) (count : ℕ) → At (limits_of old.journal 0) conf recovered start old.intake d0 old.journal.disk w0 w count
      → At (limits_of old.journal 0) conf recovered start now.intake d0 now.journal.disk w0 w1 (count + n)

  module _ (flat : List ℕ → Conf) (conf : Conf) (kept : List Numbered) (old now : Fronted D) (w w1 : WireTells) (turns n : ℕ) (ran : Since conf old now w w1 n) (later : w.faults ≤ w1.faults) (ready : IsReady old.journal now.journal) (within : n ≤ turns) where
    -- by want of memory
    pub served_refused : (head : HeadView) → IsIdle now → kept ++ head.sent ≡ now.intake.entries → HasServed tells flat base conf kept old now w w1 head turns (taken.Ended status.OutOfMemory)
    served_refused head idle sent = record {
      later = later;
      takes = λ recovered start d0 w0 count r. at_refusal_of (limits_of old.journal 0) conf recovered start now.intake d0 now.journal.disk w0 w1 count n (ran recovered start d0 w0 count r) turns within;
      served = (record { idle = idle; sent = sent_whole kept head.sent now.intake.entries status.OutOfMemory sent; unprinted = tt; wire = λ e. cc }, (tt, λ e. cc));
    }

    -- by their number
    pub served_limit : (head : HeadView) → IsIdle now → kept ++ head.sent ≡ now.intake.entries → n ≡ turns → HasServed tells flat base conf kept old now w w1 head turns (taken.Ended status.TurnLimit)
    served_limit head idle sent all = record {
      later = later;
      takes = λ recovered start d0 w0 count r. at_limit_of (limits_of old.journal 0) conf recovered start now.intake d0 now.journal.disk w0 w1 count n (ran recovered start d0 w0 count r) turns all;
      served = (record { idle = idle; sent = sent; unprinted = tt; wire = λ e. cc }, (tt, λ e. cc));
    }

    -- by the last of them
    pub served_end : (new : Fronted D) (w2 : WireTells) (head : HeadView) (most : ℕ) (e : Status) → now.journal.base ≡ base → Ends (limits_of now.journal 0) conf now.intake new.intake (Journals (λ c. ⊥) (tells now.journal.disk) (tells new.journal.disk) now.journal.base) w1 w2 most e → n + most ≤ turns
        → IsIdle new → IsSentAt kept head.sent new.intake.entries e → IsCause e → (e ≡ status.WireFault → Rose w1.faults w2.faults) → w1.faults ≤ w2.faults
        → HasServed tells flat base conf kept old new w w2 head turns (taken.Ended e)
    served_end new w2 head most e own ends few idle sent cause wire more = record {
      later = omega (arith, later, more);
      takes = λ recovered start d0 w0 count r. at_end (limits_of old.journal 0) conf recovered start now.intake d0 now.journal.disk w0 w1 count n (ran recovered start d0 w0 count r) new.intake new.journal.disk w2 most turns e
          (limits_of now.journal 0) (limits_kept old.journal now.journal ready) now.journal.base own ends few;
      served = (record { idle = idle; sent = sent; unprinted = cause.0; wire = λ is. omega (arith, later, wire is) }, cause);
    }

  -- ---- a whole run

  -- one that begins serves
  pub serving_first : (flat : List ℕ → Conf) (conf : Conf) (kept : List Numbered) (front : Fronted D) (head : HeadView) → IsOpened tells flat base conf kept front → head.sent ≡ [] → 0 < head.capacity → IsServing flat base conf kept front head
  serving_first flat conf kept front head o none room = record {
    going = o.going;
    base_is = o.base_is;
    idle = o.idle;
    sound = o.sound;
    begun = subst (λ es. HasBegun (start_of flat base) (log_of es)) o.entries_are o.sound.begun;
    plain = subst (Each IsPlain) (sym none) tt;
    sent = ap (λ l. kept ++ l) none ∙ append-nil kept ∙ sym o.entries_are;
    room = room;
  }

  -- what events made that were taken from the beginning on
  pub finished_taken : (flat : List ℕ → Conf) (conf : Conf) (kept : List Numbered) (old new : Fronted D) (w w' : WireTells) (turns : ℕ) (s : Status) → IsOpened tells flat base conf kept old → IsLawful (tells old.journal.disk)
      → TakesOn tells base conf old new w w' turns (taken.Ended s)
      → Finished (limits_of old.journal 0) (conf_behind flat (start_of flat base) (log_of kept)) kept old.intake new.intake.entries turns (doing old.journal.disk new.journal.disk) w w' (course_of s).ending
  finished_taken flat conf kept old new w w' turns s o lawful takes =
      let all = takes old.intake.entries old.intake old.journal.disk w 0 (at_start (limits_of old.journal 0) conf old.intake old.journal.disk w lawful o.durable) in
      let sum : 0 + turns ≡ turns = omega arith in
      let in_force : conf_behind flat (start_of flat base) (log_of kept) ≡ conf = ap (λ es. conf_behind flat (start_of flat base) (log_of es)) (sym o.entries_are) ∙ o.sound.in_force in
      subst (λ (k : Conf). Finished (limits_of old.journal 0) k kept old.intake new.intake.entries turns (doing old.journal.disk new.journal.disk) w w' (course_of s).ending) (sym in_force)
      (subst (λ es. Finished (limits_of old.journal 0) conf es old.intake new.intake.entries turns (doing old.journal.disk new.journal.disk) w w' (course_of s).ending) o.entries_are
      (subst (λ n. Finished (limits_of old.journal 0) conf old.intake.entries old.intake new.intake.entries n (doing old.journal.disk new.journal.disk) w w' (course_of s).ending) sum all))

  module _ {O : Type 0} (shows : O → SinkTells) (flat : List ℕ → Conf) (kept : List Numbered) (outbox : SinkTells) (front : Fronted D) (turns : ℕ) (w w' : WireTells) (course : Course D O) where
    abbrev Gone : Type 0
    Gone = HasGone tells shows flat base kept outbox front turns w w' course

    abbrev s : Status
    s = course.status

    -- one that got no book
    pub gone_held : course.began ≡ false → course.disk ≡ front.journal.disk → course.entries ≡ front.intake.entries → (error : BookError) → s ≡ book_status error
        → IsBookless base.lines (log_lines flat base (log_of kept)) outbox (shows course.outbox) (book_status error) → Gone
    gone_held isnt disk_is entries_are error is why = record {
      wire = λ e. absurd (not_wire error (sym is ∙ e));
      fault = λ e. fault_of error (sym is ∙ e) why;
      unprinted = subst IsUnprinted (sym is) (own error);
      held_back = λ f. record { disk_is = disk_is; entries_are = entries_are; why = subst (IsBookless base.lines (log_lines flat base (log_of kept)) outbox (shows course.outbox)) (sym is) why };
      mendable = λ so. absurd (clash so);
      finished = λ so. absurd (clash so);
      lines = λ so. absurd (clash so);
      counts_are = λ e. absurd (not_well error (sym is ∙ e));
    }
      where
        clash : course.began ≡ true → ⊥
        clash so = true≢false (sym so ∙ isnt)

        not_wire : (e : BookError) → book_status e ≡ status.WireFault → ⊥
        not_wire (refusal.OutboxBehind h b) e = cc
        not_wire (refusal.OutboxAhead h l) e = cc
        not_wire (refusal.OutboxDiffers at) e = cc
        not_wire refusal.OutboxFault e = cc
        not_wire refusal.OutOfMemory e = cc

        fault_of : (e : BookError) → book_status e ≡ status.OutboxFault → IsBookless base.lines (log_lines flat base (log_of kept)) outbox (shows course.outbox) (book_status e) → Rose outbox.faults (shows course.outbox).faults
        fault_of (refusal.OutboxBehind h b) e w = absurd cc
        fault_of (refusal.OutboxAhead h l) e w = absurd cc
        fault_of (refusal.OutboxDiffers at) e w = absurd cc
        fault_of refusal.OutboxFault e w = w
        fault_of refusal.OutOfMemory e w = absurd cc

        not_well : (e : BookError) → book_status e ≡ status.Ok → ⊥
        not_well (refusal.OutboxBehind h b) e = cc
        not_well (refusal.OutboxAhead h l) e = cc
        not_well (refusal.OutboxDiffers at) e = cc
        not_well refusal.OutboxFault e = cc
        not_well refusal.OutOfMemory e = cc

        own : (e : BookError) → IsUnprinted (book_status e)
        own (refusal.OutboxBehind h b) = tt
        own (refusal.OutboxAhead h l) = tt
        own (refusal.OutboxDiffers at) = tt
        own refusal.OutboxFault = tt
        own refusal.OutOfMemory = tt

    -- one that took events
    pub gone_course : (new : Fronted D) (t : Status) → course.began ≡ true → course.disk ≡ new.journal.disk → course.entries ≡ new.intake.entries → IsWorse t s → IsUnprinted t → (t ≡ status.WireFault → Rose w.faults w'.faults)
        → IsMendable base.lines outbox (log_lines flat base (log_of kept)) → Finished (limits_of front.journal 0) (conf_behind flat (start_of flat base) (log_of kept)) kept front.intake new.intake.entries turns (doing front.journal.disk new.journal.disk) w w' (course_of t).ending
        → (s ≡ status.OutboxFault → Rose outbox.faults (shows course.outbox).faults) → LinesAre (course_of s).out base.lines outbox (shows course.outbox) (log_lines flat base (log_of new.intake.entries))
        → (s ≡ status.Ok → course.counts ≡ counts_over flat base new.intake.entries) → Gone
    gone_course new t is_so disk_is entries_are worse own wire mendable f fault lines counts_are = record {
      wire = wire_worse worse;
      fault = fault;
      unprinted = own_worse worse;
      held_back = λ isnt. absurd (true≢false (sym is_so ∙ isnt));
      mendable = λ y. mendable;
      finished = λ y. subst (λ d. Finished (limits_of front.journal 0) (conf_behind flat (start_of flat base) (log_of kept)) kept front.intake course.entries turns (doing front.journal.disk d) w w' (course_of s).ending) (sym disk_is)
          (subst (λ es. Finished (limits_of front.journal 0) (conf_behind flat (start_of flat base) (log_of kept)) kept front.intake es turns (doing front.journal.disk new.journal.disk) w w' (course_of s).ending) (sym entries_are)
          (finished_worse (limits_of front.journal 0) (conf_behind flat (start_of flat base) (log_of kept)) kept front.intake new.intake.entries turns (doing front.journal.disk new.journal.disk) w w' t s worse wire f));
      lines = λ y. subst (λ es. LinesAre (course_of s).out base.lines outbox (shows course.outbox) (log_lines flat base (log_of es))) (sym entries_are) lines;
      counts_are = λ is. subst (λ es. course.counts ≡ counts_over flat base es) (sym entries_are) (counts_are is);
    }
      where
        wire_worse : IsWorse t s → s ≡ status.WireFault → Rose w.faults w'.faults
        wire_worse (inl same) is = wire (sym same ∙ is)
        wire_worse (inr (inl spent)) is = absurd (other spent is)
          where
            other : s ≡ status.OutOfMemory → s ≡ status.WireFault → ⊥
            other a b = cc
        wire_worse (inr (inr (fault, o))) is = absurd (other fault is)
          where
            other : s ≡ status.OutboxFault → s ≡ status.WireFault → ⊥
            other a b = cc

        own_worse : IsWorse t s → IsUnprinted s
        own_worse (inl same) = subst IsUnprinted (sym same) own
        own_worse (inr (inl spent)) = subst IsUnprinted (sym spent) tt
        own_worse (inr (inr (fault, o))) = subst IsUnprinted (sym fault) tt
