use Rattle.entry_laws.proofs.InForce.{nothing_is_ground}
use Rattle.entry_laws.proofs.whole_logs.nothing_is_ground.Goals as goal

pub returns : goal.returns
returns c = nothing_is_ground
