use Rattle.std.proofs.Common.{subst, sym}
use Rattle.journal_opening.specs.Recovered.{GoesOn}
use Rattle.journal_copy.specs.declared.copying.Course.{Course}
use Rattle.journal_copy.specs.Copies.{AreLeft, EndsCopy}
use Rattle.journal_copy.proofs.Copies.{stateless_ends, unkept_left}
use Rattle.journal_copy.proofs.copying.copy_kept.Goals as goal

pub returns-in-Ok-clause-ends : goal.returns-in-Ok-clause-ends
returns-in-Ok-clause-ends g c = λ most old t.
    let r = c.put.result in
    subst (λ d. EndsCopy (record { from = g.D.Disk.tells old; from' = g.D.Disk.tells d; into = g.E.Disk.tells c.args.into; into' = g.E.Disk.tells r.into }) r.number r.lines r.status) (sym c.put.ensures.from)
    (c.put.ensures.ends old (c.in-Ok.ensures.state most old t))

pub returns-in-Ok-clause-left : goal.returns-in-Ok-clause-left
returns-in-Ok-clause-left g c = λ most old t.
    let r = c.put.result in
    subst (λ d. AreLeft (record { from = g.D.Disk.tells old; from' = g.D.Disk.tells d; into = g.E.Disk.tells c.args.into; into' = g.E.Disk.tells r.into })) (sym c.put.ensures.from)
    (c.put.ensures.left old (c.in-Ok.ensures.state most old t) (subst (λ d. GoesOn (g.D.Disk.tells old) (g.D.Disk.tells d)) (sym c.in-Ok.ensures.disk) t.goes_on))

pub returns-in-Err-clause-ends : goal.returns-in-Err-clause-ends
returns-in-Err-clause-ends g c = λ most old t.
    subst (λ (r : Course _ _). EndsCopy (record { from = g.D.Disk.tells old; from' = g.D.Disk.tells r.from; into = g.E.Disk.tells c.args.into; into' = g.E.Disk.tells r.into }) r.number r.lines r.status) (sym c.stopped.ensures)
    (stateless_ends (record { from = g.D.Disk.tells old; from' = g.D.Disk.tells c.in-Err.from; into = g.E.Disk.tells c.args.into; into' = g.E.Disk.tells c.args.into }) 0 0 c.in-Err.status (c.in-Err.ensures.why most old t))

pub returns-in-Err-clause-left : goal.returns-in-Err-clause-left
returns-in-Err-clause-left g c = λ most old t.
    subst (λ (r : Course _ _). AreLeft (record { from = g.D.Disk.tells old; from' = g.D.Disk.tells r.from; into = g.E.Disk.tells c.args.into; into' = g.E.Disk.tells r.into })) (sym c.stopped.ensures)
    (unkept_left (g.D.Disk.tells old) (g.D.Disk.tells c.in-Err.from) (g.E.Disk.tells c.args.into) (subst (λ d. GoesOn (g.D.Disk.tells old) (g.D.Disk.tells d)) (sym c.in-Err.ensures.back) t.goes_on) (g.met.E.Disk.lawful c.args.into))
