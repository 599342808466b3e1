use Rattle.std.proofs.Common.{◌≡◌}
use Rattle.wire_mio.specs.Tables.{GoesOn, IsNumbered}
use Rattle.wire_mio.proofs.sockets.Sockets.accept_some.Given as goal

abbrev pub invariant-accepts : goal.invariant-accepts
invariant-accepts l = (l.queue.told ≡ l.fn.queue.told) × GoesOn l.fn.peers l.fn.queue.events l.peers l.queue.events × IsNumbered l.peers l.queue.opened
