use Rattle.entry_laws.proofs.First.{first_config}
use Rattle.entry_laws.proofs.whole_logs.first_config.Goals as goal

pub returns : goal.returns
returns c = first_config
