use Rattle.std.proofs.Common.{◌≡◌, ◌≤◌, ◌++◌, ℕ, List, length}
use Rattle.book_opening.specs.Outgoing.{Grew}
use Rattle.book_opening.proofs.writing.write_all.Given as goal

abbrev pub invariant-loop-rest : goal.invariant-loop-rest
invariant-loop-rest g l = record {
  later : (g.K.Sink.tells l.fn.sink).faults ≤ (g.K.Sink.tells l.sink).faults;
  written : (front : List ℕ) × (l.bytes ≡ front ++ l.rest) × Grew (g.K.Sink.tells l.fn.sink) (g.K.Sink.tells l.sink) front;
}

abbrev pub decreases-loop-rest : goal.decreases-loop-rest
decreases-loop-rest g l = length l.rest
