use Rattle.base_laws.proofs.BaseFitting.{base_fits}
use Rattle.base_laws.proofs.laws.base_fits.Goals as goal

pub returns : goal.returns
returns c = base_fits
