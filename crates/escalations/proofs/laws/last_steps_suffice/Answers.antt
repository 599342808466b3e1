use Rattle.escalations.proofs.LastSteps.{last_steps_suffice}
use Rattle.escalations.proofs.laws.last_steps_suffice.Goals as goal

pub returns : goal.returns
returns c = last_steps_suffice
