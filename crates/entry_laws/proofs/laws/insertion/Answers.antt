use Rattle.entry_step.proofs.Orders.{insertion}
use Rattle.entry_laws.proofs.laws.insertion.Goals as goal

pub returns : goal.returns
returns c = insertion
