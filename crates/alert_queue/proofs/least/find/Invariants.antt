use Rattle.std.proofs.Common.{◌≡◌, ◌≤◌, ◌<◌, ◌*◌, ◌-◌, slice_index}
use Rattle.alert_queue.proofs.least.find.Given as goal

abbrev pub invariant-loop-at : goal.invariant-loop-at
invariant-loop-at l = record {
  low : 1 ≤ l.at;
  high : l.at < 2 * l.size;
  least : slice_index l.nodes l.at ≡ slice_index l.nodes 1;
}

abbrev pub decreases-loop-at : goal.decreases-loop-at
decreases-loop-at l = 2 * l.size - l.at
