use Rattle.std.proofs.Common.{◌≡◌}
use Rattle.wire_mio.specs.Tables.{GoesOn, IsNumbered}
use Rattle.wire_mio.proofs.sockets.Sockets.take_all.Given as goal

abbrev pub invariant-reports : goal.invariant-reports
invariant-reports l = (l.queue.told ≡ l.fn.queue.told) × GoesOn l.fn.peers l.fn.queue.events l.peers l.queue.events × IsNumbered l.peers l.queue.opened
