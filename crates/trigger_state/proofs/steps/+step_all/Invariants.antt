use Rattle.std.proofs.Common.{length}
use Rattle.trigger_state.proofs.steps.+step_all.Given as goal

abbrev pub decreases-step_all : goal.decreases-step_all
decreases-step_all l = length l.opens.now
