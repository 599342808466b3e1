use Rattle.entry_laws.proofs.InForce.{ground_held}
use Rattle.entry_laws.proofs.whole_logs.ground_held.Goals as goal

pub returns : goal.returns
returns c = ground_held
