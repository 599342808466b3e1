use Rattle.preprocess.proofs.Logs.{hold_one_more}
use Rattle.preprocess.proofs.laws.hold_one_more.Goals as goal

pub returns : goal.returns
returns c = hold_one_more
