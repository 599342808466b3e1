use Rattle.std.proofs.Common.{take}
use Rattle.entry_step.specs.Each.{Each}
use Rattle.base_state.specs.Fitting.{HasRun}
use Rattle.base_state.proofs.fitting_problems.have_run.Given as goal

abbrev pub invariant-loop-one : goal.invariant-loop-one
invariant-loop-one l = Each (HasRun l.fn.now) (take l.one-index l.ran)
