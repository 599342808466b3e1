use Rattle.entry_step.proofs.Wholes.{fresh_fits}
use Rattle.entry_laws.proofs.whole_logs.fresh_fits.Goals as goal

pub returns : goal.returns
returns c = fresh_fits
