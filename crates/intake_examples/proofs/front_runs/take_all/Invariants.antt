use Rattle.std.proofs.Common.{◌≡◌}
use Rattle.intake_journal.specs.declared.state.State.TheVariants.{Ready}
use Rattle.intake_examples.proofs.front_runs.take_all.Given as goal

abbrev pub invariant-loop-event : goal.invariant-loop-event
invariant-loop-event l = l.front.journal.state ≡ Ready
