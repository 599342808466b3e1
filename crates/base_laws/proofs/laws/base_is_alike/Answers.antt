use Rattle.base_laws.proofs.Central.{base_is_alike}
use Rattle.base_laws.proofs.laws.base_is_alike.Goals as goal

pub returns : goal.returns
returns c = base_is_alike
