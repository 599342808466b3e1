use Rattle.preprocess.proofs.Stands.{carried_remember}
use Rattle.preprocess.proofs.laws.carried_remember.Goals as goal

pub returns : goal.returns
returns c = carried_remember
