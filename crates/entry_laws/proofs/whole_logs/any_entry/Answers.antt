use Rattle.entry_step.proofs.Wholes.{any_entry}
use Rattle.entry_laws.proofs.whole_logs.any_entry.Goals as goal

pub returns : goal.returns
returns c = any_entry
