use Rattle.std.proofs.Common.{◌≡◌, [], replicate}
use Rattle.entry_step.proofs.cells.no_problems.Given as goal

abbrev pub invariant-loop-trigger : goal.invariant-loop-trigger
invariant-loop-trigger l = l.problems.items ≡ replicate l._trigger []
