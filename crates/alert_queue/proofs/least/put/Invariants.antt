use Rattle.std.proofs.Common.{◌≡◌, ◌-◌, length, drop, slice_set}
use Rattle.alert_queue.specs.Tree.{IsTreeBut}
use Rattle.alert_queue.proofs.least.put.Given as goal

abbrev pub invariant-loop-at : goal.invariant-loop-at
invariant-loop-at l = record {
  tree : IsTreeBut l.size l.at l.nodes;
  keys : drop l.size l.nodes ≡ slice_set (drop l.size l.fn.nodes) l.place l.key;
}

abbrev pub decreases-loop-at : goal.decreases-loop-at
decreases-loop-at l = l.at - 1
