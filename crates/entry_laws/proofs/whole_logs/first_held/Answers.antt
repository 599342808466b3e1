use Rattle.entry_laws.proofs.InForce.{first_held}
use Rattle.entry_laws.proofs.whole_logs.first_held.Goals as goal

pub returns : goal.returns
returns c = first_held
