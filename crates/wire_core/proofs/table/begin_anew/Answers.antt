use Rattle.wire_core.proofs.Entries.{set_at}
use Rattle.wire_core.proofs.table.begin_anew.Goals as goal

pub returns : goal.returns
returns c d = set_at c.args.peers.now.entries c.args.place c.args.opened d
