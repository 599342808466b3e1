use Rattle.std.proofs.Common.{◌≡◌, ◌++◌, map, drop}
use Rattle.base_state.specs.Fitting.{opened}
use Rattle.base_state.proofs.fitting_problems.opened.Given as goal

abbrev pub invariant-loop-one : goal.invariant-loop-one
invariant-loop-one l = l.made ++ map opened (drop l.one-index l.problems) ≡ map opened l.problems
