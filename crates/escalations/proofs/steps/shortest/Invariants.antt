use Rattle.std.proofs.Common.{◌≡◌, drop, map}
use Rattle.std.specs.Prelude.{filter, min}
use Rattle.std.specs.List.{reduce}
use Rattle.escalations.specs.Steps.{has_step, lasts}
use Rattle.escalations.proofs.Gathered.{gathered}
use Rattle.escalations.proofs.steps.shortest.Given as goal

abbrev pub invariant-loop-operation : goal.invariant-loop-operation
invariant-loop-operation l = gathered min l.shortest (map (lasts l.action) (filter (has_step l.step) (drop l.operation-index l.operations))) ≡ reduce min (map (lasts l.action) (filter (has_step l.step) l.operations))
