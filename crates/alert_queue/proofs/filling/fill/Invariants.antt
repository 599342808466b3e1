use Rattle.std.proofs.Common.{◌≡◌, ◌≤◌, ◌+◌, length, drop}
use Rattle.alert_queue.specs.Queues.{count_left}
use Rattle.alert_queue.specs.New.{filled}
use Rattle.alert_queue.proofs.filling.fill.Given as goal

abbrev pub invariant-loop-place : goal.invariant-loop-place
invariant-loop-place l = record {
  filled : filled l.lanes.items (l.place + 1) (drop l.place l.homes) (drop l.place l.marked) ≡ filled l.fn.lanes.items 1 l.homes l.marked;
  count : length l.lanes.items ≡ length l.fn.lanes.items;
  left : l.left ≡ count_left l.lanes.items;
  few : l.left ≤ l.place;
}
