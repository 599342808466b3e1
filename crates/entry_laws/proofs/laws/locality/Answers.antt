use Rattle.entry_step.proofs.Orders.{locality}
use Rattle.entry_laws.proofs.laws.locality.Goals as goal

pub returns : goal.returns
returns c = locality
