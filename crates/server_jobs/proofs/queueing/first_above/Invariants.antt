use Rattle.std.proofs.Common.{◌≡◌, drop}
use Rattle.server_jobs.specs.Numbering.{first_above}
use Rattle.server_jobs.proofs.queueing.first_above.Given as goal

abbrev pub invariant-loop-mark : goal.invariant-loop-mark
invariant-loop-mark l = record {
  left : first_above l.total (drop l.mark-index l.marks) ≡ first_above l.total l.marks;
}
