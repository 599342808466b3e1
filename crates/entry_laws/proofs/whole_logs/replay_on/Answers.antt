use Rattle.entry_laws.proofs.InForce.{replay_on}
use Rattle.entry_laws.proofs.whole_logs.replay_on.Goals as goal

pub returns : goal.returns
returns c = replay_on
