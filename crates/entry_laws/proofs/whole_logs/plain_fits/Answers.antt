use Rattle.entry_laws.proofs.InForce.{plain_fits}
use Rattle.entry_laws.proofs.whole_logs.plain_fits.Goals as goal

pub returns : goal.returns
returns c = plain_fits
