use Rattle.base_laws.proofs.Fitting.{fits_is_sound}
use Rattle.base_laws.proofs.laws.fits_is_sound.Goals as goal

pub returns : goal.returns
returns c = fits_is_sound
