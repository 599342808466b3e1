use Rattle.std.proofs.Common.{◌≡◌, ◌++◌, drop, length}
use Rattle.dependency_graph.specs.Walks.{once_behind}
use Rattle.dependency_graph.specs.Tables.{IsTable}
use Rattle.dependency_graph.proofs.walks.meet_all.Given as goal

abbrev pub invariant-loop-place : goal.invariant-loop-place
invariant-loop-place l = record {
  queue : l.queue ++ once_behind l.queue (drop l.place-index l.places) ≡ l.fn.queue ++ once_behind l.fn.queue l.places;
  table : IsTable l.met.items l.queue;
  size : length l.met.items ≡ length l.fn.met.items;
}
