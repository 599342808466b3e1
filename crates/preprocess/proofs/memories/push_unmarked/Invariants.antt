use Rattle.std.proofs.Common.{◌≡◌, ◌++◌, drop, map}
use Rattle.prep_steps.specs.Outcomes.{unmarked}
use Rattle.preprocess.proofs.memories.push_unmarked.Given as goal

abbrev pub invariant-loop-step : goal.invariant-loop-step
invariant-loop-step l = l.made ++ map (λ s. unmarked) (drop l._step-index l.steps) ≡ l.fn.made ++ map (λ s. unmarked) l.steps
