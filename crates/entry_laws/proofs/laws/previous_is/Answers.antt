use Rattle.entry_laws.proofs.Previous.{previous_is}
use Rattle.entry_laws.proofs.laws.previous_is.Goals as goal

pub returns : goal.returns
returns c = previous_is
