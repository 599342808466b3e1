use Rattle.std.proofs.Common.{ap, sym}
use Rattle.wire_core.specs.declared.peer.Peer.{Peer}
use Rattle.wire_core.proofs.Entries.{kept_at}
use Rattle.wire_core.proofs.table.since_at.Goals as goal

pub returns : goal.returns
returns c d = ap (λ (p : Peer). p.since) (sym (kept_at c.args.peers.now.entries c.args.place _ d c.index.ensures))
