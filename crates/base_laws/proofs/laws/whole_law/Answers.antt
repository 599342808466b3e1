use Rattle.base_laws.proofs.WholeBases.{whole_law}
use Rattle.base_laws.proofs.laws.whole_law.Goals as goal

pub returns : goal.returns
returns c = whole_law
