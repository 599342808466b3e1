use Rattle.std.proofs.Common.{◌≤◌, length, take}
use Rattle.alert_queue.specs.Queues.{AreFiled}
use Rattle.alert_queue.proofs.filing.file_all.Given as goal

abbrev pub invariant-loop-place : goal.invariant-loop-place
invariant-loop-place l = record {
  filed : AreFiled 0 (take l.place l.lanes) l.ready l.waiting;
  room : length l.lanes ≤ length l.ready;
}
