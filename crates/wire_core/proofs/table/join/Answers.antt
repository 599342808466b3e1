use Rattle.std.proofs.Common.{ap, ◌∙◌}
use Rattle.wire_core.specs.Kept.{peers_in}
use Rattle.wire_core.proofs.Entries.{joined_last}
use Rattle.wire_core.proofs.table.join.Goals as goal

pub returns-clause-after : goal.returns-clause-after
returns-clause-after c = ap peers_in c.in_ok-insert.ensures.entries ∙ joined_last c.args.peers.now.entries c.args.conn c.args.opened c.requires
