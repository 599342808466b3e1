use Rattle.std.proofs.Common.{◌∙◌}
use Rattle.intake_journal.proofs.Staged.{block_is, none_by_length}
use Rattle.intake_journal.proofs.block.Block.is_empty.Goals as goal

pub returns : goal.returns
returns c = none_by_length c.len.result c.args.self.now (c.len.ensures ∙ (block_is c.self.inside.bytes c.self.inside.entries c.args.self.now c.self.invariant c.self.view_is).size)
