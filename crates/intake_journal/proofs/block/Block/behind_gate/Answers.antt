use Rattle.std.proofs.Common.{◌∙◌}
use Rattle.intake_journal.proofs.Staged.{block_is, behind_first}
use Rattle.intake_journal.proofs.block.Block.behind_gate.Goals as goal

pub returns-clause-shape : goal.returns-clause-shape
returns-clause-shape c =
    let block = block_is c.self.inside.bytes c.self.inside.entries c.args.self.now c.self.invariant c.self.view_is in
    behind_first c.as_slice.result.now c.args.self.now (c.as_slice.ensures ∙ block.bytes_are) c.requires.some

pub returns-clause-readable : goal.returns-clause-readable
returns-clause-readable c = (block_is c.self.inside.bytes c.self.inside.entries c.args.self.now c.self.invariant c.self.view_is).readable
