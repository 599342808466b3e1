use Rattle.base_laws.proofs.Alike.{alike_logs}
use Rattle.base_laws.proofs.laws.alike_logs.Goals as goal

pub returns : goal.returns
returns c = alike_logs
