use Rattle.base_state.proofs.Told.{whole_bases}
use Rattle.base_state.proofs.laws.whole_bases.Goals as goal

pub returns : goal.returns
returns c = whole_bases
