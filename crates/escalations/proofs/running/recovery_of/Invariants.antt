use Rattle.std.proofs.Common.{◌≡◌, ◌++◌, drop}
use Rattle.std.specs.Prelude.{flat_map}
use Rattle.escalations.specs.Escalations.{recovery_records}
use Rattle.escalations.proofs.running.recovery_of.Given as goal

abbrev pub invariant-loop-action : goal.invariant-loop-action
invariant-loop-action l = l.out ++ flat_map (recovery_records l.conf l.problem l.steps_run l.fn.now) (drop l.action-index l.actions) ≡ flat_map (recovery_records l.conf l.problem l.steps_run l.fn.now) l.actions
