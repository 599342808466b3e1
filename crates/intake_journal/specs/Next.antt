-- What reading the next group of a journal does.
use Rattle.std.specs.Prelude.{◌≡◌, ◌+◌, ℕ, List, [], length, Option, Some, None, IfSome, Result, Ok, Err}
use Rattle.intake_journal.specs.Kept.{Groups, Damaged, with_group, kept_from}
use Rattle.intake_journal.specs.Settled.{Journaled}
use Rattle.intake_journal.specs.declared.format.Group.{Group}
use Rattle.intake_journal.specs.declared.state.State.TheVariants.{Ready, Broken}
use Rattle.intake_journal.specs.declared.state.JournalError.{JournalError}
use Rattle.intake_journal.specs.declared.state.JournalError.TheVariants as error

-- a journal whose disk alone may have changed
abbrev pub IsStill : {D : Type 0} → Journaled D → Journaled D → Type 0
IsStill old new = new ≡ record old { disk = new.disk }

-- the next group is the first of what was left; at the end nothing was left, and the journal is ready; damage is told where what was left begins with it; without memory or with damage the journal stands where it stood
abbrev pub ReadsNext : {D : Type 0} → Option (List ℕ) → Journaled D → Journaled D → Result (Option Group) JournalError → Type 0
ReadsNext bytes old new (Ok (Some group)) =
    (new ≡ record old { disk = new.disk; at = new.at; entries = old.entries + length group.entries })
    × (group.at ≡ old.at) × IfSome bytes (λ b. kept_from old.at b ≡ with_group group (kept_from new.at b))
ReadsNext bytes old new (Ok None) = (new ≡ record old { disk = new.disk; state = Ready }) × IfSome bytes (λ b. kept_from old.at b ≡ Groups [])
ReadsNext bytes old new (Err (error.Damaged at)) = IsStill old new × (at ≡ old.at) × IfSome bytes (λ b. kept_from old.at b ≡ Damaged at)
ReadsNext bytes old new (Err error.OutOfMemory) = IsStill old new
ReadsNext bytes old new (Err error.DiskFault) = new ≡ record old { disk = new.disk; state = Broken }
ReadsNext bytes old new (Err error.NotOurs) = ⊥
ReadsNext bytes old new (Err error.Unfinished) = ⊥
