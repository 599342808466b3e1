use Rattle.base_laws.proofs.Nothing.{whole_over_nothing}
use Rattle.base_laws.proofs.laws.whole_over_nothing.Goals as goal

pub returns : goal.returns
returns c = whole_over_nothing
