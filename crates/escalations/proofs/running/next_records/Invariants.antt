use Rattle.std.proofs.Common.{◌≡◌, ◌++◌, drop}
use Rattle.std.specs.Prelude.{flat_map}
use Rattle.escalations.specs.Escalations.{next_records}
use Rattle.escalations.proofs.running.next_records.Given as goal

abbrev pub invariant-loop-action : goal.invariant-loop-action
invariant-loop-action l = l.out ++ flat_map (next_records l.case.conf.now l.quiet l.case.problem.now l.steps_run l.case.moment) (drop l.action-index l.actions) ≡ flat_map (next_records l.case.conf.now l.quiet l.case.problem.now l.steps_run l.case.moment) l.actions
