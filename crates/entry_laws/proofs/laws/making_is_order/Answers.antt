use Rattle.entry_step.proofs.Replays.{making_is_order}
use Rattle.entry_laws.proofs.laws.making_is_order.Goals as goal

pub returns : goal.returns
returns c = making_is_order
