use Rattle.entry_step.proofs.Owning.{entries_own}
use Rattle.entry_laws.proofs.laws.entries_own.Goals as goal

pub returns : goal.returns
returns c = entries_own
