use Rattle.std.proofs.Common.{◌≡◌, ◌++◌, drop, take, length}
use Rattle.dependency_graph.specs.Walks.{once_behind, linked_by}
use Rattle.dependency_graph.specs.Tables.{IsTable}
use Rattle.dependency_graph.proofs.walks.meet_linked.Given as goal

abbrev pub invariant-loop-at : goal.invariant-loop-at
invariant-loop-at l = record {
  queue : l.queue ++ once_behind l.queue (linked_by l.links (drop l.at l.fn.queue)) ≡ l.fn.queue ++ once_behind l.fn.queue (linked_by l.links (drop l.start l.fn.queue));
  front : take (length l.fn.queue) l.queue ≡ l.fn.queue;
  table : IsTable l.met.items l.queue;
  size : length l.met.items ≡ length l.fn.met.items;
}
