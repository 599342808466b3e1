use Rattle.std.proofs.Common.{subst, sym, ◌∙◌, Some}
use Rattle.indexmap.specs.IndexMap.{spare}
use Rattle.wire_mio.specs.Tables.{IsAt}
use Rattle.wire_mio.proofs.Seen.{at_seen}
use Rattle.wire_mio.proofs.connections.Connections.at.Goals as goal

pub returns-then-is_kind : goal.returns-then-is_kind
returns-then-is_kind c = subst (λ t. IsAt c.args.kind t c.args.place (Some (c.in_ok-conn.conn.now, c.in_ok-conn.peer.now.since))) c.self.view_is (at_seen c.args.kind c.self.inside.peers.entries c.self.inside.moment (spare c.self.inside.peers) c.args.place c.in_ok-conn.conn.now c.in_ok-conn.peer.now (sym c.in_ok-conn.ensures.entry) c.in_ok-conn.ensures.value (sym c.is_kind.ensures ∙ c.if-is_kind.true))
