-- Marks of entries.
use Rattle.std.specs.Prelude.{ℕ, ◌==◌, Bool, true, false, if◌then◌else◌}
use Rattle.syncer_gate.specs.declared.marks.Mark.{Mark}
use Rattle.syncer_gate.specs.declared.marks.Mark.TheVariants.{Pending, Applied, Taken}

-- nobody works on it
abbrev pub is_pending : Mark → Bool
is_pending Pending = true
is_pending Applied = false
is_pending (Taken batch) = false

-- in an open batch
abbrev pub is_open : Mark → Bool
is_open Pending = false
is_open Applied = false
is_open (Taken batch) = true

-- in the open batch with this id
abbrev pub is_taken : ℕ → Mark → Bool
is_taken id Pending = false
is_taken id Applied = false
is_taken id (Taken batch) = batch == id

-- a mark once the batch with this id has ended, so that its entries' marks became another
abbrev pub ended : ℕ → Mark → Mark → Mark
ended id to mark = if is_taken id mark then to else mark

-- a mark once all open batches have ended, so that their entries are pending
abbrev pub reopened : Mark → Mark
reopened Pending = Pending
reopened Applied = Applied
reopened (Taken batch) = Pending
