use Rattle.std.proofs.Common.{◌≡◌, ◌-◌, ◌^◌, min, length, take}
use Rattle.intake_journal.specs.Bytes.{entries_bytes}
use Rattle.intake_journal.proofs.encoding.size.Given as goal

abbrev pub invariant-loop-entry : goal.invariant-loop-entry
invariant-loop-entry l = l.total ≡ min (length (entries_bytes (take l.entry-index l.entries))) (2 ^ 64 - 1)
