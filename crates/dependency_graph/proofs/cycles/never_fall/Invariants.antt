use Rattle.std.proofs.Common.{ℕ, ◌<◌, ◌≤◌, [], get_or, All}
use Rattle.dependency_graph.proofs.cycles.never_fall.Given as goal

abbrev pub invariant-loop-thing : goal.invariant-loop-thing
invariant-loop-thing l = (k : ℕ) → k < l.thing → All (λ t. get_or l.numbers k 0 ≤ get_or l.numbers t 0) (get_or l.links k [])
