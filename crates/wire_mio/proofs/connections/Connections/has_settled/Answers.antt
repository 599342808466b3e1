use Rattle.wire_mio.specs.declared.peer.Kind.TheVariants as kind
use Rattle.wire_mio.proofs.Longest.{one_is}
use Rattle.wire_mio.proofs.connections.Connections.has_settled.Goals as goal

pub returns-in-Some : goal.returns-in-Some
returns-in-Some c = λ is full none. absurd (one_is kind.Parted c.args.self.now c.in-Some.field-0.0 c.in-Some.field-0.1 c.in-Some.ensures.found.there none)
