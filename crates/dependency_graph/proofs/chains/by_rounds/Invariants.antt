use Rattle.std.proofs.Common.{◌≡◌, ℕ, length, get_or}
use Rattle.dependency_graph.specs.Depths.{longest}
use Rattle.dependency_graph.proofs.chains.by_rounds.Given as goal

abbrev pub invariant-loop-round : goal.invariant-loop-round
invariant-loop-round l = record {
  size : length l.depths ≡ length l.links;
  each : (k : ℕ) → get_or l.depths k 0 ≡ longest l.links l._round k;
}
