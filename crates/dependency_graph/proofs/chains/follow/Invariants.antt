use Rattle.std.proofs.Common.{◌≡◌, ℕ, ◌<◌, [], get_or}
use Rattle.dependency_graph.specs.Tables.{next_depth}
use Rattle.dependency_graph.proofs.chains.follow.Given as goal

abbrev pub invariant-loop-thing : goal.invariant-loop-thing
invariant-loop-thing l = (k : ℕ) → k < l.thing → get_or l.depths k 0 ≡ next_depth l.depths (get_or l.links k [])
