use Rattle.entry_step.proofs.Following.{keeps_on}
use Rattle.entry_laws.proofs.whole_logs.keeps_on.Goals as goal

pub returns : goal.returns
returns c = keeps_on
