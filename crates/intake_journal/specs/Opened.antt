-- What is known of a file that was opened as a journal.
use Rattle.std.specs.Prelude.{◌≡◌, ℕ, ◌<◌, List, [], length, take, Result, Ok, Err}
use Rattle.outside.specs.Disk.{DiskTells, Only}
use Rattle.intake_journal.specs.Kept.{Kept, kept_from, kept, base_in}
use Rattle.intake_journal.specs.Settled.{Journaled, IsFront}
use Rattle.intake_journal.specs.declared.state.JournalError.{JournalError}
use Rattle.intake_journal.specs.Kept.Kept.{Fresh, NotOurs, Unfinished, Damaged, Groups}

-- what is left to read where a file keeps this: a fresh one has no groups
abbrev pub left_of : Kept → Kept
left_of Fresh = Groups []
left_of NotOurs = NotOurs
left_of Unfinished = Unfinished
left_of (Damaged at) = Damaged at
left_of (Groups gs) = Groups gs

-- a file that was opened: it begins as a journal with its first gate at this place, all of it is durable, and what it keeps is what the file kept before, with the same base
pub record IsOpened (disk : DiskTells) (first : ℕ) (before now : List ℕ) : Type 0 where
  pub front : IsFront first [] (take first now)
  pub gate : first < length now
  pub durable : Only now disk
  pub left : kept_from first now ≡ left_of (kept before)
  pub same_base : base_in now ≡ base_in before

-- the disk that an opening gives back, in the journal or beside the error
abbrev pub disk_of : {D : Type 0} → Result (Journaled D) (D × JournalError) → D
disk_of (Ok journal) = journal.disk
disk_of (Err pair) = pair.0
