use Rattle.std.proofs.Common.{◌≡◌}
use Rattle.wire_mio.specs.Tables.{GoesOn, IsNumbered}
use Rattle.wire_mio.proofs.wire.wait.Given as goal

abbrev pub invariant-looks : goal.invariant-looks
invariant-looks g l = (l.queue.told ≡ l.fn.queue.told) × GoesOn l.fn.peers l.fn.queue.events l.peers l.queue.events × IsNumbered l.peers l.queue.opened
