use Rattle.std.proofs.Common.{◌≡◌, ◌-◌}
use Rattle.intake_journal.specs.Format.{entries_of}
use Rattle.intake_journal.proofs.Entries.{with_front}
use Rattle.intake_journal.proofs.decoding.list_of.Given as goal

abbrev pub invariant-loop : goal.invariant-loop
invariant-loop l = with_front l.entries (entries_of (l.count - l.counter) l.rest) ≡ entries_of l.count l.bytes
