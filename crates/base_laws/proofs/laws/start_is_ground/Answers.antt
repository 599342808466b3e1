use Rattle.base_laws.proofs.Grounds.{start_is_ground}
use Rattle.base_laws.proofs.laws.start_is_ground.Goals as goal

pub returns : goal.returns
returns c = start_is_ground
