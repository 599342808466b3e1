use Rattle.std.proofs.Common.{◌≡◌, ◌++◌, map, drop}
use Rattle.base_laws.specs.Bases.{read_step}
use Rattle.base_state.proofs.values.marks_of.Given as goal

abbrev pub invariant-loop-step : goal.invariant-loop-step
invariant-loop-step l = l.marks ++ map read_step (drop l.step-index l.steps) ≡ map read_step l.steps
