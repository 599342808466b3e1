use Rattle.std.proofs.Common.{◌≤◌, ◌<◌, ℕ, length, slice_index}
use Rattle.alert_queue.specs.Queues.{AreFiled, count_due}
use Rattle.alert_queue.proofs.filing.file_due.Given as goal

abbrev pub invariant-loop-ready : goal.invariant-loop-ready
invariant-loop-ready l = record {
  filed : AreFiled l.now l.lanes l.ready l.waiting;
  inside : l.place < length l.waiting;
  least : (j : ℕ) → j < length l.waiting → slice_index l.waiting l.place ≤ slice_index l.waiting j;
}

abbrev pub decreases-loop-ready : goal.decreases-loop-ready
decreases-loop-ready l = count_due l.now l.waiting
