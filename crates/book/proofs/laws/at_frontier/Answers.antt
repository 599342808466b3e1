use Rattle.book.proofs.Scheduled.{at_frontier}
use Rattle.book.proofs.laws.at_frontier.Goals as goal

pub returns : goal.returns
returns c = at_frontier
