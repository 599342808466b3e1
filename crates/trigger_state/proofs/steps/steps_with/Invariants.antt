use Rattle.std.proofs.Common.{◌≡◌, ◌++◌, drop}
use Rattle.trigger_state.specs.Problems.{with_step}
use Rattle.trigger_state.proofs.steps.steps_with.Given as goal
use Rattle.std.specs.Prelude.{if◌then◌else◌}

abbrev pub invariant-loop-one : goal.invariant-loop-one
invariant-loop-one l = l.made ++ (if l.taken then drop l.one-index l.steps else with_step (drop l.one-index l.steps) l.step) ≡ with_step l.steps l.step
