use Rattle.entry_step.proofs.Orders.{applied_part}
use Rattle.entry_laws.proofs.laws.applied_part.Goals as goal

pub returns : goal.returns
returns c = applied_part
