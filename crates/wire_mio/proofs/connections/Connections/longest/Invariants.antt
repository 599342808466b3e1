use Rattle.wire_mio.specs.Tables.{IsLongestBelow}
use Rattle.wire_mio.proofs.connections.Connections.longest.Given as goal

abbrev pub invariant-places : goal.invariant-places
invariant-places l = IsLongestBelow l.kind l.self l.place l.longest
