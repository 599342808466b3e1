use Rattle.entry_step.proofs.Wholes.{all_told}
use Rattle.entry_laws.proofs.whole_logs.all_told.Goals as goal

pub returns : goal.returns
returns c = all_told
