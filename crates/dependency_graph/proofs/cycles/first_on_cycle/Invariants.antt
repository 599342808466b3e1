use Rattle.std.proofs.Common.{◌≡◌, drop}
use Rattle.dependency_graph.specs.Cycles.{first_from, first_on_cycle}
use Rattle.dependency_graph.proofs.cycles.first_on_cycle.Given as goal

abbrev pub invariant-loop-from : goal.invariant-loop-from
invariant-loop-from l = first_from l.links l.from (drop l.from l.links) ≡ first_on_cycle l.links
