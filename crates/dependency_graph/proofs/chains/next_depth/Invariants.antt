use Rattle.std.proofs.Common.{◌≡◌, max, drop}
use Rattle.dependency_graph.specs.Tables.{next_depth}
use Rattle.dependency_graph.proofs.chains.next_depth.Given as goal

abbrev pub invariant-loop-end : goal.invariant-loop-end
invariant-loop-end l = max l.next (next_depth l.depths (drop l.end-index l.ends)) ≡ next_depth l.depths l.ends
