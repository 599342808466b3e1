use Rattle.std.proofs.Common.{◌≡◌}
use Rattle.entry_step.proofs.Stepped.{AllHalfway}
use Rattle.entry_step.proofs.parts.step_all.Given as goal

abbrev pub invariant-loop-entry : goal.invariant-loop-entry
invariant-loop-entry g l = record {
  halfway : AllHalfway l.ready l.fn.cells l.entries l.entry-index l.cells l.made l.fn.steps l.steps;
  cache : l.cells.cache ≡ l.fn.cells.cache;
}
