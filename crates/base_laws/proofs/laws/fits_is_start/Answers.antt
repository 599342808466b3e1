use Rattle.base_laws.proofs.Fitting.{fits_is_start}
use Rattle.base_laws.proofs.laws.fits_is_start.Goals as goal

pub returns : goal.returns
returns c = fits_is_start
