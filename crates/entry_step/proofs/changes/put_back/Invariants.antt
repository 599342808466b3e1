use Rattle.std.proofs.Common.{◌≡◌}
use Rattle.entry_step.specs.Changes.{with_rows}
use Rattle.entry_step.proofs.changes.put_back.Given as goal

abbrev pub invariant-loop-row : goal.invariant-loop-row
invariant-loop-row l = l.problems.items ≡ with_rows l.initial.problems.items l.yielded
