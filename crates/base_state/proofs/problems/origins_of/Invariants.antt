use Rattle.std.proofs.Common.{◌≡◌, ◌++◌, drop}
use Rattle.base_laws.specs.Bases.{told_origins}
use Rattle.base_state.proofs.problems.origins_of.Given as goal

abbrev pub invariant-loop-place : goal.invariant-loop-place
invariant-loop-place l = l.made.items ++ told_origins l.place (drop l.place l.problems) ≡ told_origins 0 l.problems
