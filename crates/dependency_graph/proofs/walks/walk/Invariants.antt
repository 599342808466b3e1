use Rattle.std.proofs.Common.{◌≡◌, ◌-◌, ◌≤◌, take, length}
use Rattle.dependency_graph.specs.Walks.{once, linked_by, walk, walked}
use Rattle.dependency_graph.specs.Tables.{IsTable}
use Rattle.dependency_graph.proofs.Once.{IsAmong}
use Rattle.dependency_graph.proofs.walks.walk.Given as goal

abbrev pub invariant-loop-level : goal.invariant-loop-level
invariant-loop-level l = record {
  rest : walked l.links (length l.links - l._level) l.queue ≡ walk l.links l.places;
  once : once l.queue ≡ l.queue;
  met : IsAmong (linked_by l.links (take l.start l.queue)) l.queue;
  start : l.start ≤ length l.queue;
  table : IsTable l.met.items l.queue;
  size : length l.met.items ≡ length l.links;
}
