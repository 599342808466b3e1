use Rattle.std.proofs.Common.{take}
use Rattle.entry_step.specs.Each.{Each}
use Rattle.base_state.specs.Fitting.{FitsValue}
use Rattle.base_state.proofs.fitting_items.values_fit.Given as goal

abbrev pub invariant-loop-value : goal.invariant-loop-value
invariant-loop-value l = Each (FitsValue l.value_type l.number l.fn.now) (take l.value-index l.values)
