use Rattle.preprocess.proofs.Stands.{carried_stand}
use Rattle.preprocess.proofs.laws.carried_stand.Goals as goal

pub returns : goal.returns
returns c = carried_stand
