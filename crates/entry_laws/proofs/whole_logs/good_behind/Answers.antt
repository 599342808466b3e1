use Rattle.entry_laws.proofs.InForce.{good_behind}
use Rattle.entry_laws.proofs.whole_logs.good_behind.Goals as goal

pub returns : goal.returns
returns c = good_behind
