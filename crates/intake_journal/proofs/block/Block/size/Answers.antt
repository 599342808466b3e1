use Rattle.std.proofs.Common.{◌∙◌}
use Rattle.intake_journal.proofs.Staged.{block_is}
use Rattle.intake_journal.proofs.block.Block.size.Goals as goal

pub returns-clause-value : goal.returns-clause-value
returns-clause-value c = c.len.ensures ∙ (block_is c.self.inside.bytes c.self.inside.entries c.args.self.now c.self.invariant c.self.view_is).size
