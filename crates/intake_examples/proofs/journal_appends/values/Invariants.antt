use Rattle.std.proofs.Common.{◌≡◌, length}
use Rattle.std.specs.List.{All}
use Rattle.intake_journal.specs.Bytes.{HasShortValue}
use Rattle.intake_examples.proofs.journal_appends.values.Given as goal

abbrev pub invariant-loop : goal.invariant-loop
invariant-loop l = record { many : length l.group ≡ l.counter; short : All HasShortValue l.group }
