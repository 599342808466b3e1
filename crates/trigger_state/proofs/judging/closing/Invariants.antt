use Rattle.std.proofs.Common.{◌≡◌, ◌++◌, drop}
use Rattle.trigger_state.specs.Verdicts.{closing}
use Rattle.trigger_state.proofs.judging.closing.Given as goal

abbrev pub invariant-loop-one : goal.invariant-loop-one
invariant-loop-one l = l.events ++ closing l.trigger l.tags (drop l.one-index l.problems) ≡ closing l.trigger l.tags l.problems
