use Rattle.std.proofs.Common.{◌≡◌, ◌++◌, map, drop}
use Rattle.dependency_graph.specs.Tables.{next_depth}
use Rattle.dependency_graph.proofs.chains.longer.Given as goal

abbrev pub invariant-loop-ends : goal.invariant-loop-ends
invariant-loop-ends l = l.made ++ map (next_depth l.depths) (drop l.ends-index l.links) ≡ map (next_depth l.depths) l.links
