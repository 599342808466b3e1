-- How far the opening of a run came with its journal.
use Rattle.std.specs.Prelude.{◌≡◌, ◌⊎◌, ◌≤◌, ℕ, List, [], map, None, is_some, IfSome}
use Rattle.zbx_types.specs.declared.conf.Conf.{Conf}
use Rattle.zbx_types.specs.declared.entries.Numbered.{Numbered}
use Rattle.intake_journal.specs.Kept.{longest_journal, base_in}
use Rattle.intake_journal.specs.Settled.{Journaled, KeepsAsOneOf}
use Rattle.intake_journal.specs.declared.state.State.TheVariants.{Ready}
use Rattle.outside.specs.Disk.{DiskTells, LeavesOnly}
use Rattle.outside.specs.Tells.{SinkTells}
use Rattle.intake_front.specs.Intake.{IsSound}
use Rattle.intake_front.specs.Fronted.{Fronted}
use Rattle.intake_front.specs.Batch.{IsIdle}
use Rattle.entry_laws.specs.InForce.{texts_on}
use Rattle.intake_front.specs.declared.answer.FrontError.{FrontError}
use Rattle.intake_front.specs.declared.answer.FrontError.TheVariants as front
use Rattle.base_laws.specs.Grounds.{start_of}
use Rattle.server_words.specs.declared.status.Status.{Status}
use Rattle.server_words.specs.declared.status.Status.TheVariants as status
use Rattle.journal_opening.specs.Recovered.{Found, FoundGroups, found_entries, HasGroups, GoesOn}
use Rattle.journal_opening.specs.Opening.{IsAccepted, HasRoomAtOpening, opening_intake, BeginningEntries, FoundEntries}
use Rattle.journal_opening.specs.Replayed.{flat}
use Rattle.journal_opening.specs.Reasons.{reason_of, Unopened, has_for, enters_for}
use Rattle.journal_opening.specs.Journals.{KeepsSome, IsEither, Journals}

-- the status of a run for which no intake was made
abbrev pub status_for : FrontError → Status
status_for (front.Full entries bytes) = status.Full entries bytes
status_for front.DiskFault = status.DiskFault
status_for front.OutOfMemory = status.OutOfMemory

-- A run that was configured, with an outbox, and didn't begin: why, and the entries that it has. A crash meanwhile left
-- what one before it might have, or, where the run came so far, entries that it found, behind the file's base.
pub record TurnedAway (conf : Conf) (most : ℕ) (old new : DiskTells) (outbox outbox' : SinkTells) (entries : List Numbered)
    (s : Status) : Type 0 where
  pub told : is_some new.bytes ≡ is_some old.bytes
  pub later : old.faults ≤ new.faults
  pub why : Unopened conf most old new outbox outbox' s
  pub found : (entries ≡ []) ⊎ FoundEntries old.bytes conf entries
  pub has : has_for (reason_of s) old.bytes (BeginningEntries old.bytes conf) (FoundEntries old.bytes conf) entries
  pub left : IfSome old.bytes (λ b. LeavesOnly old new
      (λ c. KeepsAsOneOf old c ⊎ KeepsSome (base_in b) (enters_for (reason_of s) (FoundEntries old.bytes conf)) c))

-- A journal that was opened and is ready: what its file keeps is accepted, these are its entries, and the configurations
-- of its base and of the Configs among them, and it was gone on with as far as that.
pub record IsTakenUp {D : Type 0} (tells : D → DiskTells) (most : ℕ) (old : D) (journal : Journaled D)
    (kept : List Numbered) (confs : List Conf) : Type 0 where
  pub found : Found
  pub finds : FoundGroups (tells old).bytes found
  pub accepted : IsAccepted found
  pub kept_are : kept ≡ found_entries found
  pub confs_are : confs ≡ map flat (texts_on found.base.text kept)
  pub has : HasGroups tells journal found
  pub limits : (journal.max_entries ≡ most) × (journal.max_bytes ≡ longest_journal)
  pub goes_on : GoesOn (tells old) (tells journal.disk)

-- A run that was configured: the intake behind what its journal keeps, behind which there was room for its configuration.
-- A crash meanwhile left what one before it might have, or the entries that were kept, or those with which the run goes
-- on, which are kept now; nothing waits for a commit.
pub record HasBegun {D : Type 0} (tells : D → DiskTells) (conf : Conf) (most : ℕ) (old : D)
    (made : Fronted D) : Type 0 where
  pub found : Found
  pub finds : FoundGroups (tells old).bytes found
  pub accepted : IsAccepted found
  pub room : HasRoomAtOpening most conf found
  pub ready : made.journal.state ≡ Ready
  pub base : made.journal.base ≡ found.base
  pub limits : (made.journal.max_entries ≡ most) × (made.journal.max_bytes ≡ longest_journal)
  pub intake_is : made.intake ≡ opening_intake conf found
  pub sound : IsSound flat (start_of flat found.base) conf made.intake
  pub idle : IsIdle made
  pub journaled : Journals (KeepsAsOneOf (tells old)) (tells old) (tells made.journal.disk) found.base
      (IsEither (found_entries found) made.intake.entries) None made.intake.entries
