use Rattle.std.proofs.Common.{take}
use Rattle.entry_step.specs.Each.{Each}
use Rattle.base_state.specs.Fitting.{FitsAlone}
use Rattle.base_state.proofs.fitting_problems.fit_alone.Given as goal

abbrev pub invariant-loop-one : goal.invariant-loop-one
invariant-loop-one l = Each (FitsAlone l.number l.fn.now) (take l.one-index l.problems)
