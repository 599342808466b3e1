use Rattle.std.proofs.Common.{◌≡◌, ◌≤◌, length}
use Rattle.session_examples.proofs.sessions.notes.Given as goal

abbrev pub invariant-loop : goal.invariant-loop
invariant-loop l = record {
  high : l.counter ≤ l.count;
  size : length l.notes ≡ l.counter;
}
