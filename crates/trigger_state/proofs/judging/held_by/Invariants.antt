use Rattle.std.proofs.Common.{◌≡◌, drop}
use Rattle.trigger_state.specs.Verdicts.{some_open}
use Rattle.trigger_state.proofs.judging.held_by.Given as goal

abbrev pub invariant-loop-master : goal.invariant-loop-master
invariant-loop-master g l = some_open (g.O.Opens.problems l.opens) (drop l.master-index l.masters) ≡ some_open (g.O.Opens.problems l.opens) l.masters
