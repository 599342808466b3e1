use Rattle.std.proofs.Common.{◌≡◌, drop}
use Rattle.std.specs.List.{list_any}
use Rattle.escalations.specs.Steps.{goes_to}
use Rattle.escalations.proofs.steps.some_goes_to.Given as goal

abbrev pub invariant-loop-operation : goal.invariant-loop-operation
invariant-loop-operation l = list_any (goes_to l.step) (drop l.operation-index l.operations) ≡ list_any (goes_to l.step) l.operations
