use Rattle.base_laws.proofs.BaseFitting.{checkpoint_fits}
use Rattle.base_laws.proofs.laws.checkpoint_fits.Goals as goal

pub returns : goal.returns
returns c = checkpoint_fits
