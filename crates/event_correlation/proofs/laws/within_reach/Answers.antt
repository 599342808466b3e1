use Rattle.event_correlation.proofs.LeftOut.{within_reach}
use Rattle.event_correlation.proofs.laws.within_reach.Goals as goal

pub returns : goal.returns
returns c = within_reach
