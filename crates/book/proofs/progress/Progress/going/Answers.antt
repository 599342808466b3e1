use Rattle.std.proofs.Common.{subst}
use Rattle.book.specs.Progress.{IsGoing}
use Rattle.book.proofs.progress.Progress.going.Goals as goal

pub returns : goal.returns
returns g c = subst (IsGoing g.S.StartName.start) c.self.view_is c.self.invariant.0
