use Rattle.std.proofs.Common.{◌≡◌, ◌++◌, take}
use Rattle.std.specs.List.{All}
use Rattle.intake_journal.specs.Bytes.{entries_bytes, IsTyped}
use Rattle.intake_journal.proofs.encoding.put_all.Given as goal

abbrev pub invariant-loop-entry : goal.invariant-loop-entry
invariant-loop-entry l = record { out : l.out ≡ l.fn.out ++ entries_bytes (take l.entry-index l.entries); typed : All IsTyped (take l.entry-index l.entries) }
