use Rattle.std.proofs.Common.{take}
use Rattle.entry_step.specs.Each.{EachPair}
use Rattle.base_state.specs.Fitting.{RunsBefore}
use Rattle.base_state.proofs.fitting_problems.run_in_order.Given as goal

abbrev pub invariant-loop-place : goal.invariant-loop-place
invariant-loop-place l = EachPair RunsBefore (take l.place l.ran)
