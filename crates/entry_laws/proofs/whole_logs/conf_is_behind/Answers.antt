use Rattle.entry_laws.proofs.InForce.{conf_is_behind}
use Rattle.entry_laws.proofs.whole_logs.conf_is_behind.Goals as goal

pub returns : goal.returns
returns c = conf_is_behind
