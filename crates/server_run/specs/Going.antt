-- How far the taking of events has come, and what of their entries was sent. `flat` tells the configuration that a text
-- stands for, and the entries stand on the base of the journal, which is empty where it has none.
use Rattle.std.specs.Prelude.{◌≡◌, ◌≢◌, ◌⊎◌, ◌≤◌, ◌<◌, ◌+◌, ℕ, List, ◌++◌, true, false, None, Result, Ok, Err, ⊤}
use mathlib.Core.List.{IsPrefix}
use Rattle.zbx_types.specs.declared.base.Base.{Base}
use Rattle.zbx_types.specs.declared.conf.Conf.{Conf}
use Rattle.zbx_types.specs.declared.entries.Numbered.{Numbered}
use Rattle.outside.specs.Causes.{Rose}
use Rattle.outside.specs.Disk.{DiskTells}
use Rattle.outside.specs.Tells.{SinkTells, WireTells}
use Rattle.entry_step.specs.Each.{Each}
use Rattle.entry_laws.specs.InForce.{IsGround, IsPlain, HasBegun, conf_behind}
use Rattle.entry_step.specs.Log.{log_of}
use Rattle.book.specs.Ends.{HeadView}
use Rattle.base_laws.specs.Grounds.{IsBase, start_of}
use Rattle.book_opening.specs.Outgoing.{IsMendable, log_lines}
use Rattle.server_run.specs.Outbox.{LinesAre}
use Rattle.journal_opening.specs.Outbox.{IsBehind, IsAhead, IsOther}
use Rattle.journal_opening.specs.Tally.{counts_over}
use Rattle.book_opening.specs.declared.errors.BookError.{BookError}
use Rattle.book_opening.specs.declared.errors.BookError.TheVariants as refusal
use Rattle.intake_journal.specs.declared.state.State.TheVariants.{Ready}
use Rattle.intake_front.specs.Intake.{Limits, Intake, IsSound}
use Rattle.intake_front.specs.Fronted.{Fronted, IsKept, IsReady, limits_of}
use Rattle.intake_front.specs.Batch.{IsIdle}
use Rattle.server_words.specs.declared.status.Status.{Status}
use Rattle.server_words.specs.declared.status.Status.TheVariants as status
use Rattle.server_run.specs.declared.course.Course.{Course}
use Rattle.server_run.specs.declared.serving.Taken.{Taken}
use Rattle.server_run.specs.declared.serving.Taken.TheVariants as taken
use Rattle.server_run.specs.Events.{Ran}
use Rattle.server_run.specs.Runs.{Finished}
use Rattle.server_run.specs.Statuses.{anywhere, course_of, IsUnprinted}
use Rattle.server_run.specs.Stops.{refusing}
use Rattle.journal_opening.specs.Journals.{Journals}

-- the entries behind those with which a run began are sent, all of them, or, where memory was refused, some from the
-- front
abbrev pub IsSentAt : List Numbered → List Numbered → List Numbered → Status → Type 0
IsSentAt kept sent entries status.OutOfMemory = IsPrefix (kept ++ sent) entries
IsSentAt kept sent entries _ = kept ++ sent ≡ entries

-- the same by what some events came to
abbrev pub IsSentBy : List Numbered → List Numbered → List Numbered → Result ℕ Status → Type 0
IsSentBy kept sent entries (Ok count) = kept ++ sent ≡ entries
IsSentBy kept sent entries (Err s) = IsSentAt kept sent entries s

-- a status with which the taking of events ends by itself: it comes before anything is printed, and isn't for the
-- outbox
abbrev pub IsCause : Status → Type 0
IsCause s = IsUnprinted s × (s ≢ status.OutboxFault)

-- the taking of events hasn't ended
abbrev pub IsGoing : Taken → Type 0
IsGoing (taken.Going count) = ⊤
IsGoing (taken.Ended s) = ⊥

-- a run that serves: its journal has this base, nothing waits for a commit, the intake is sound, and all its entries behind
-- those with which it began are sent, none of which is a Config
pub record IsServing {D : Type 0} (flat : List ℕ → Conf) (base : Base) (conf : Conf) (kept : List Numbered)
    (front : Fronted D) (head : HeadView) : Type 0 where
  pub going : front.journal.state ≡ Ready
  pub base_is : front.journal.base ≡ base
  pub idle : IsIdle front
  pub sound : IsSound flat (start_of flat base) conf front.intake
  pub begun : HasBegun (start_of flat base) (log_of kept)
  pub plain : Each IsPlain head.sent
  pub sent : kept ++ head.sent ≡ front.intake.entries
  pub room : 0 < head.capacity

-- a run that began with some entries, an intake, a disk and a wire took so many events, none of which stopped it, and
-- came to this intake
pub record Reaches {D : Type 0} (tells : D → DiskTells) (base : Base) (limits : Limits) (conf : Conf)
    (recovered : List Numbered) (start now : Intake) (d0 d : D) (w0 w : WireTells) (count : ℕ) : Type 0 where
  pub ran : Ran (refusing limits 0) conf recovered start now
      (Journals (λ c. ⊥) (tells d0) (tells d) base) w0 w count None None anywhere
  pub later : w0.faults ≤ w.faults

-- What taking events did, behind whatever the run had done before: it took so many more and goes on; or it ended with
-- a status.
abbrev pub TakesOn : {D : Type 0} → (D → DiskTells) → Base → Conf → Fronted D → Fronted D → WireTells → WireTells → ℕ
    → Taken → Type 0
TakesOn {D = D} tells base conf old new w w' turns (taken.Going n) =
    (n ≤ turns) × ((recovered : List Numbered) (start : Intake) (d0 : D) (w0 : WireTells) (count : ℕ)
    → Reaches tells base (limits_of old.journal 0) conf recovered start old.intake d0 old.journal.disk w0 w count
    → Reaches tells base (limits_of old.journal 0) conf recovered start new.intake d0 new.journal.disk w0 w' (count + n))
TakesOn {D = D} tells base conf old new w w' turns (taken.Ended s) =
    (recovered : List Numbered) (start : Intake) (d0 : D) (w0 : WireTells) (count : ℕ)
    → Reaches tells base (limits_of old.journal 0) conf recovered start old.intake d0 old.journal.disk w0 w count
    → Finished (limits_of old.journal 0) conf recovered start new.intake.entries (count + turns)
    (Journals (λ c. ⊥) (tells d0) (tells new.journal.disk) base) w0 w' (course_of s).ending

-- what holds of a run at the end of the taking of events: nothing waits for a commit, and its entries are sent; a
-- fault of its wire shows in the count
pub record IsEndedAt {D : Type 0} (kept : List Numbered) (new : Fronted D) (w w' : WireTells) (head : HeadView)
    (s : Status) : Type 0 where
  pub idle : IsIdle new
  pub sent : IsSentAt kept head.sent new.intake.entries s
  pub unprinted : IsUnprinted s
  pub wire : s ≡ status.WireFault → Rose w.faults w'.faults

-- the run serves, where the taking of events goes on; or it has ended, but not for its outbox
abbrev pub IsServedAt : {D : Type 0} → (List ℕ → Conf) → Base → Conf → List Numbered → Fronted D → Fronted D → WireTells
    → WireTells → HeadView → Taken → Type 0
IsServedAt flat base conf kept old new w w' head (taken.Going n) =
    IsServing flat base conf kept new head × IsReady old.journal new.journal
IsServedAt flat base conf kept old new w w' head (taken.Ended s) = IsEndedAt kept new w w' head s × IsCause s

-- Events were taken by a run that served, at most so many, and answered; and their entries were sent.
pub record HasServed {D : Type 0} (tells : D → DiskTells) (flat : List ℕ → Conf) (base : Base) (conf : Conf)
    (kept : List Numbered) (old new : Fronted D) (w w' : WireTells) (head : HeadView) (turns : ℕ)
    (t : Taken) : Type 0 where
  pub later : w.faults ≤ w'.faults
  pub takes : TakesOn tells base conf old new w w' turns t
  pub served : IsServedAt flat base conf kept old new w w' head t

-- what taking events came to, or want of memory of somebody beside it
abbrev pub IsJoined : Taken → Taken → Type 0
IsJoined t joined = (joined ≡ t) ⊎ (joined ≡ taken.Ended status.OutOfMemory)

-- A front with which a run begins: its journal is ready, and keeps this base, with which a run can begin, and these entries
-- behind it; nothing waits for a commit, and the intake is sound.
pub record IsOpened {D : Type 0} (tells : D → DiskTells) (flat : List ℕ → Conf) (base : Base) (conf : Conf)
    (kept : List Numbered) (front : Fronted D) : Type 0 where
  pub going : front.journal.state ≡ Ready
  pub base_is : front.journal.base ≡ base
  pub good : IsBase flat base
  pub stands : IsGround (start_of flat base)
  pub idle : IsIdle front
  pub sound : IsSound flat (start_of flat base) conf front.intake
  pub entries_are : front.intake.entries ≡ kept
  pub durable : IsKept (tells front.journal.disk) base front.intake.entries

-- why a run got no book over an outbox for kept entries with these lines, which stand behind so many bytes: memory was
-- refused; or the outbox failed, or isn't one of them
abbrev pub IsBookless : ℕ → List ℕ → SinkTells → SinkTells → Status → Type 0
IsBookless before lines outbox outbox' status.OutOfMemory = ⊤
IsBookless before lines outbox outbox' status.OutboxFault = Rose outbox.faults outbox'.faults
IsBookless before lines outbox outbox' (status.OutboxBehind held base) = IsBehind outbox before held base
IsBookless before lines outbox outbox' (status.OutboxAhead held count) = IsAhead outbox before lines held count
IsBookless before lines outbox outbox' (status.OutboxDiffers at) = IsOther outbox before lines at
IsBookless before lines outbox outbox' _ = ⊥

-- and has its disk and its entries
pub record IsHeldBack {D : Type 0} (before : ℕ) (lines : List ℕ) (outbox outbox' : SinkTells) (front : Fronted D) (disk : D)
    (entries : List Numbered) (s : Status) : Type 0 where
  pub disk_is : disk ≡ front.journal.disk
  pub entries_are : entries ≡ front.intake.entries
  pub why : IsBookless before lines outbox outbox' s

-- the status of a run that got no book
abbrev pub book_status : BookError → Status
book_status (refusal.OutboxBehind held base) = status.OutboxBehind held base
book_status (refusal.OutboxAhead held lines) = status.OutboxAhead held lines
book_status (refusal.OutboxDiffers at) = status.OutboxDiffers at
book_status refusal.OutboxFault = status.OutboxFault
book_status refusal.OutOfMemory = status.OutOfMemory

-- what becomes of a status where the last lines aren't written, or memory is refused: want of memory stands before a
-- fault of the outbox, and that before all others
abbrev pub IsWorse : Status → Status → Type 0
IsWorse s worse =
    (worse ≡ s) ⊎ ((worse ≡ status.OutOfMemory) ⊎ ((worse ≡ status.OutboxFault) × (s ≢ status.OutOfMemory)))

-- A run that was opened went up to its printed line: it got no book, or it took events up to some ending, with the
-- configuration in force behind the kept entries; and so many lines and counts are those of its entries, behind its base.
pub record HasGone {D O : Type 0} (tells : D → DiskTells) (shows : O → SinkTells) (flat : List ℕ → Conf) (base : Base)
    (kept : List Numbered) (outbox : SinkTells) (front : Fronted D) (turns : ℕ) (w w' : WireTells)
    (course : Course D O) : Type 0 where
  pub wire : course.status ≡ status.WireFault → Rose w.faults w'.faults
  pub fault : course.status ≡ status.OutboxFault → Rose outbox.faults (shows course.outbox).faults
  pub unprinted : IsUnprinted course.status
  pub held_back : course.began ≡ false
      → IsHeldBack base.lines (log_lines flat base (log_of kept)) outbox (shows course.outbox) front course.disk
      course.entries course.status
  pub mendable : course.began ≡ true → IsMendable base.lines outbox (log_lines flat base (log_of kept))
  pub finished : course.began ≡ true
      → Finished (limits_of front.journal 0) (conf_behind flat (start_of flat base) (log_of kept)) kept
      front.intake course.entries turns (Journals (λ c. ⊥) (tells front.journal.disk) (tells course.disk) base) w w'
      (course_of course.status).ending
  pub lines : course.began ≡ true → LinesAre (course_of course.status).out base.lines outbox (shows course.outbox)
      (log_lines flat base (log_of course.entries))
  pub counts_are : course.status ≡ status.Ok → course.counts ≡ counts_over flat base course.entries
