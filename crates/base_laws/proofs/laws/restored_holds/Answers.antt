use Rattle.base_laws.proofs.Restored.{restored_holds}
use Rattle.base_laws.proofs.laws.restored_holds.Goals as goal

pub returns : goal.returns
returns c = restored_holds
