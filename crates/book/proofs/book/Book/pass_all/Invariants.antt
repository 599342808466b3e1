use Rattle.std.proofs.Common.{◌≡◌, ◌≤◌, ◌-◌}
use Rattle.book.proofs.book.Book.pass_all.Given as goal

abbrev pub invariant-loop-alloc : goal.invariant-loop-alloc
invariant-loop-alloc g l = record {
  rest : l.self ≡ record l.initial.self { frontier = l.self.frontier; tally = l.self.tally; unwritten = l.self.unwritten };
  within : l.self.frontier ≤ l.applied;
}

abbrev pub decreases-loop-alloc : goal.decreases-loop-alloc
decreases-loop-alloc g l = l.applied - l.self.frontier
