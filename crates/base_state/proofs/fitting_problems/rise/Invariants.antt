use Rattle.std.proofs.Common.{take}
use Rattle.entry_step.specs.Each.{EachPair}
use Rattle.base_state.specs.Fitting.{IsOfEarlier}
use Rattle.base_state.proofs.fitting_problems.rise.Given as goal

abbrev pub invariant-loop-place : goal.invariant-loop-place
invariant-loop-place l = EachPair IsOfEarlier (take l.place l.problems)
