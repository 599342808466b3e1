use Rattle.std.proofs.Common.{◌≡◌, ◌<◌, ℕ, Some, slice_get}
use Rattle.zbx_types.specs.declared.base.BaseStep.{BaseStep}
use Rattle.zbx_types.specs.declared.steps.StepSpec.{StepSpec}
use Rattle.base_laws.specs.FitsBase.{FitsStep}
use Rattle.base_state.proofs.fitting_items.steps_fit.Given as goal

abbrev pub invariant-loop-place : goal.invariant-loop-place
invariant-loop-place l =
    (place : ℕ) (step : StepSpec) (memory : BaseStep) → place < l.place → slice_get l.steps place ≡ Some step → slice_get l.kept place ≡ Some memory → FitsStep l.fn.now step memory
