use Rattle.std.proofs.Common.{◌≡◌, drop}
use Rattle.trigger_state.specs.Problems.{absorbed_all}
use Rattle.entry_step.proofs.opens.absorbed.Given as goal

abbrev pub invariant-loop-rec : goal.invariant-loop-rec
invariant-loop-rec l = absorbed_all l.stage l.id l.made (drop l.rec-index l.more) ≡ absorbed_all l.stage l.id l.fn.opens l.more
