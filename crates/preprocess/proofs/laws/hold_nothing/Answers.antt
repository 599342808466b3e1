use Rattle.preprocess.proofs.Logs.{hold_nothing}
use Rattle.preprocess.proofs.laws.hold_nothing.Goals as goal

pub returns : goal.returns
returns c = hold_nothing
