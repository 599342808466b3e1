use Rattle.entry_step.proofs.Orders.{fresh_is_good}
use Rattle.entry_laws.proofs.laws.fresh_is_good.Goals as goal

pub returns : goal.returns
returns c = fresh_is_good
