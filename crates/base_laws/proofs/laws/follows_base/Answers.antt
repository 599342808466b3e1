use Rattle.base_laws.proofs.Central.{follows_base}
use Rattle.base_laws.proofs.laws.follows_base.Goals as goal

pub returns : goal.returns
returns c = follows_base
