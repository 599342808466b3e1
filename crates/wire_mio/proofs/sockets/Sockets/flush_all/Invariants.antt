use Rattle.wire_mio.specs.Tables.{KeepsLive}
use Rattle.wire_mio.proofs.sockets.Sockets.flush_all.Given as goal

abbrev pub invariant-sending : goal.invariant-sending
invariant-sending l = KeepsLive l.fn.peers l.peers
