use Rattle.entry_laws.proofs.InForce.{holds_behind_all}
use Rattle.entry_laws.proofs.whole_logs.holds_behind_all.Goals as goal

pub returns : goal.returns
returns c = holds_behind_all
