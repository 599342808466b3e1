use Rattle.std.proofs.Common.{◌≡◌, drop}
use Rattle.std.specs.Prelude.{option_map, ◌+◌}
use Rattle.dependency_graph.specs.Cycles.{own_on_cycle}
use Rattle.dependency_graph.proofs.cycles.own_on_cycle.Given as goal

abbrev pub invariant-loop-at : goal.invariant-loop-at
invariant-loop-at l = option_map (λ n. n + l.at) (own_on_cycle l.links l.from (drop l.at l.ends)) ≡ own_on_cycle l.links l.from l.ends
