use Rattle.entry_step.proofs.Wholes.{stays_told}
use Rattle.entry_laws.proofs.whole_logs.stays_told.Goals as goal

pub returns : goal.returns
returns c = stays_told
