use Rattle.entry_step.proofs.Orders.{batch_on_a_copy}
use Rattle.entry_laws.proofs.laws.batch_on_a_copy.Goals as goal

pub returns : goal.returns
returns c = batch_on_a_copy
