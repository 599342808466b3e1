use Rattle.wire_mio.specs.Tables.{KeepsLive}
use Rattle.wire_mio.proofs.sockets.Sockets.settle_all.Given as goal

abbrev pub invariant-unsettled : goal.invariant-unsettled
invariant-unsettled l = KeepsLive l.fn.peers l.peers
