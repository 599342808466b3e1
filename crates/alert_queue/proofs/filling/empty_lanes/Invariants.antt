use Rattle.std.proofs.Common.{◌≡◌, map, take}
use Rattle.alert_queue.specs.Lanes.{empty_lane}
use Rattle.alert_queue.proofs.filling.empty_lanes.Given as goal

abbrev pub invariant-loop-kind : goal.invariant-loop-kind
invariant-loop-kind l = record {
  made : l.lanes.items ≡ map empty_lane (take l.kind-index l.kinds);
}
