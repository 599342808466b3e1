use Rattle.std.proofs.Common.{ap, arith}
use Rattle.intake_journal.proofs.Staged.{more_long, count-push}
use Rattle.intake_journal.proofs.journal.Journal.with_group.Goals as goal

pub returns-clause-entries : goal.returns-clause-entries
returns-clause-entries g c =
    omega (arith, ap (λ v. v.entries) c.self.view_is, c.entries.ensures.value, count-push c.args.block.now c.args.group.now)

pub returns-clause-bytes : goal.returns-clause-bytes
returns-clause-bytes g c =
    omega (arith, ap (λ v. v.at) c.self.view_is, c.size.ensures, c.size-2.ensures.value, c.saturating_add-bytes.ensures, more_long c.args.block.now c.args.group.now)

pub returns-clause-long : goal.returns-clause-long
returns-clause-long g c small =
    omega (arith, small, c.size.ensures, c.size-2.ensures.value, c.saturating_add-bytes.ensures)
