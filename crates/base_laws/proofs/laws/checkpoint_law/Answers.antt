use Rattle.base_laws.proofs.WholeBases.{checkpoint_law}
use Rattle.base_laws.proofs.laws.checkpoint_law.Goals as goal

pub returns : goal.returns
returns c = checkpoint_law
