use Rattle.entry_step.proofs.Orders.{are_tidy}
use Rattle.entry_laws.proofs.laws.are_tidy.Goals as goal

pub returns : goal.returns
returns c = are_tidy
