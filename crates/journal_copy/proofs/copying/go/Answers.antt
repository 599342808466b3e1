use Rattle.journal_copy.proofs.Copies.{planned_ends}
use Rattle.journal_copy.proofs.copying.go.Goals as goal

pub returns-in-Ok-clause-ends : goal.returns-in-Ok-clause-ends
returns-in-Ok-clause-ends g c =
    let r = c.copy.result in
    planned_ends c.args.words.now c.in-Ok.plan
    (record { from = g.D.Disk.tells c.args.from; from' = g.D.Disk.tells r.from; into = g.E.Disk.tells c.args.into; into' = g.E.Disk.tells r.into }) r.number r.lines r.status c.in-Ok.ensures.ok c.copy.ensures.ends
