use Rattle.wire_mio.specs.Tables.{KeepsLive}
use Rattle.wire_mio.proofs.connections.Connections.sweep.Given as goal

abbrev pub invariant-places : goal.invariant-places
invariant-places l = KeepsLive l.fn.self l.self
