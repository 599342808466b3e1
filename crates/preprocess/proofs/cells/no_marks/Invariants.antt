use Rattle.std.proofs.Common.{◌≡◌, ◌++◌, map, drop}
use Rattle.prep_steps.specs.Outcomes.{unmarked}
use Rattle.preprocess.proofs.cells.no_marks.Given as goal

abbrev pub invariant-loop-step : goal.invariant-loop-step
invariant-loop-step l = l.marks ++ map (λ step. unmarked) (drop l._step-index l.item.steps) ≡ map (λ step. unmarked) l.item.steps
