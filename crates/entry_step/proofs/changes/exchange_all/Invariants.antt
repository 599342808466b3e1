use Rattle.std.proofs.Common.{◌≡◌}
use Rattle.entry_step.specs.Changes.{with_all, put_back}
use Rattle.entry_step.proofs.changes.exchange_all.Given as goal

abbrev pub invariant-loop-one : goal.invariant-loop-one
invariant-loop-one l = record {
  rows : l.problems.items ≡ with_all l.fn.problems.items l.yielded;
  same : put_back l.problems.items l.taken ≡ put_back l.fn.problems.items l.fn.taken;
}
