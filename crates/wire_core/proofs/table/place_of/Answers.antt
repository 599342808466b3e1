use Rattle.std.proofs.Common.{◌∙◌}
use Rattle.wire_core.proofs.Entries.{key_place}
use Rattle.wire_core.proofs.table.place_of.Goals as goal

pub returns : goal.returns
returns c = c.get_index_of.ensures.index ∙ key_place c.args.peers.now.entries c.args.conn
