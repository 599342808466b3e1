use Rattle.std.proofs.Common.{subst, sym}
use Rattle.journal_copy.specs.declared.copying.Course.{Course}
use Rattle.journal_copy.specs.Copies.{AreLeft, EndsCopy}
use Rattle.journal_copy.proofs.Copies.{made_left, unmade_ends}
use Rattle.journal_copy.proofs.copying.put.Goals as goal

pub returns-in-Ok-clause-left : goal.returns-in-Ok-clause-left
returns-in-Ok-clause-left g c = λ old of on.
    let m = c.in-Ok.ensures in
    made_left (g.D.Disk.tells old) (g.D.Disk.tells c.args.from) (g.E.Disk.tells c.args.into) (g.E.Disk.tells c.in-Ok.into) c.args.state.now of on m.any_moment m.told m.later

pub returns-in-Err-clause-ends : goal.returns-in-Err-clause-ends
returns-in-Err-clause-ends g c = λ old of.
    let m = c.in-Err.ensures in
    let into = g.E.Disk.tells c.args.into in
    subst (λ (r : Course _ _). EndsCopy (record { from = g.D.Disk.tells old; from' = g.D.Disk.tells c.args.from; into = into; into' = g.E.Disk.tells r.into }) r.number r.lines r.status) (sym c.stopped.ensures)
    (subst (EndsCopy (record { from = g.D.Disk.tells old; from' = g.D.Disk.tells c.args.from; into = into; into' = g.E.Disk.tells c.in-Err.into }) 0 0) (sym c.status_of.ensures)
    (unmade_ends (g.D.Disk.tells old) (g.D.Disk.tells c.args.from) into (g.E.Disk.tells c.in-Err.into) c.args.state.now of 0 0 c.in-Err.error m.not_empty m.too_large m.first_held m.fault))

pub returns-in-Err-clause-left : goal.returns-in-Err-clause-left
returns-in-Err-clause-left g c = λ old of on.
    let m = c.in-Err.ensures in
    let into = g.E.Disk.tells c.args.into in
    subst (λ (r : Course _ _). AreLeft (record { from = g.D.Disk.tells old; from' = g.D.Disk.tells c.args.from; into = into; into' = g.E.Disk.tells r.into })) (sym c.stopped.ensures)
    (made_left (g.D.Disk.tells old) (g.D.Disk.tells c.args.from) into (g.E.Disk.tells c.in-Err.into) c.args.state.now of on m.any_moment m.told m.later)
