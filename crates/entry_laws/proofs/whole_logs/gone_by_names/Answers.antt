use Rattle.entry_step.proofs.Finding.{gone_by_names}
use Rattle.entry_laws.proofs.whole_logs.gone_by_names.Goals as goal

pub returns : goal.returns
returns c = gone_by_names
