use Rattle.std.proofs.Common.{arith}
use Rattle.intake_journal.proofs.Staged.{block_is}
use Rattle.intake_journal.proofs.block.Block.entries.Goals as goal

pub returns-clause-value : goal.returns-clause-value
returns-clause-value c = (block_is c.self.inside.bytes c.self.inside.entries c.args.self.now c.self.invariant c.self.view_is).count

pub returns-clause-small : goal.returns-clause-small
returns-clause-small c = let block = block_is c.self.inside.bytes c.self.inside.entries c.args.self.now c.self.invariant c.self.view_is in omega (arith, block.count, block.few)
