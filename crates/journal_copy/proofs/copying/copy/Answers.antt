use Rattle.std.proofs.Common.{subst, sym}
use Rattle.journal_copy.specs.declared.copying.Course.{Course}
use Rattle.journal_copy.specs.Copies.{EndsCopy}
use Rattle.journal_copy.proofs.Copies.{unkept_ends}
use Rattle.journal_copy.proofs.copying.copy.Goals as goal

pub returns-in-Err-clause-ends : goal.returns-in-Err-clause-ends
returns-in-Err-clause-ends g c =
    subst (λ (r : Course _ _). EndsCopy (record { from = g.D.Disk.tells c.args.from; from' = g.D.Disk.tells r.from; into = g.E.Disk.tells c.args.into; into' = g.E.Disk.tells r.into }) r.number r.lines r.status) (sym c.stopped.ensures)
    (unkept_ends (record { from = g.D.Disk.tells c.args.from; from' = g.D.Disk.tells c.in-Err.from; into = g.E.Disk.tells c.args.into; into' = g.E.Disk.tells c.args.into }) 0 0 c.in-Err.status c.in-Err.ensures.why)
