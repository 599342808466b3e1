use Rattle.entry_laws.proofs.Remembered.{previous_in_whole}
use Rattle.entry_laws.proofs.whole_logs.previous_in_whole.Goals as goal

pub returns : goal.returns
returns c = previous_in_whole
