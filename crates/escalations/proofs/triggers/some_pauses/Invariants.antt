use Rattle.std.proofs.Common.{◌≡◌, drop}
use Rattle.escalations.specs.Triggers.{some_pauses}
use Rattle.escalations.proofs.triggers.some_pauses.Given as goal

abbrev pub invariant-loop-action : goal.invariant-loop-action
invariant-loop-action l = some_pauses l.case.conf.now l.case.problem.now (drop l.action-index l.actions) ≡ some_pauses l.case.conf.now l.case.problem.now l.actions
