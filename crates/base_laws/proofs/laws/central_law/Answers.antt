use Rattle.base_laws.proofs.Central.{central_law}
use Rattle.base_laws.proofs.laws.central_law.Goals as goal

pub returns : goal.returns
returns c = central_law
