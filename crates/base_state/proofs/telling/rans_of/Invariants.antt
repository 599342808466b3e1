use Rattle.std.proofs.Common.{◌≡◌, ◌++◌, map, drop}
use Rattle.base_laws.specs.Bases.{told_ran}
use Rattle.base_state.proofs.telling.rans_of.Given as goal

abbrev pub invariant-loop-step : goal.invariant-loop-step
invariant-loop-step l = l.made ++ map told_ran (drop l.step-index l.steps) ≡ map told_ran l.steps
