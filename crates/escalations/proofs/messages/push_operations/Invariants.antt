use Rattle.std.proofs.Common.{◌≡◌, ◌++◌, drop}
use Rattle.std.specs.Prelude.{filter, flat_map}
use Rattle.escalations.specs.Messages.{operation_records}
use Rattle.escalations.specs.Steps.{has_step}
use Rattle.escalations.proofs.messages.push_operations.Given as goal

abbrev pub invariant-loop-operation : goal.invariant-loop-operation
invariant-loop-operation l = l.out ++ flat_map (operation_records l.conf l.problem l.action l.step) (filter (has_step l.step) (drop l.operation-index l.operations)) ≡ l.fn.out ++ flat_map (operation_records l.conf l.problem l.action l.step) (filter (has_step l.step) l.operations)
