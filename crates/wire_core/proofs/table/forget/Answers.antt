use Rattle.std.proofs.Common.{ap, ◌∙◌}
use Rattle.wire_core.specs.Kept.{peers_in}
use Rattle.wire_core.proofs.Entries.{gone_at}
use Rattle.wire_core.proofs.table.forget.Goals as goal

pub returns : goal.returns
returns c = ap peers_in c.shift_remove_index.ensures.entries ∙ gone_at c.args.peers.now.entries c.args.place
