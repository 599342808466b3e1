use Rattle.std.proofs.Common.{subst, sym, inl, inr}
use Rattle.journal_opening.specs.Recovered.{GoesOn}
use Rattle.journal_opening.proofs.Beginning.{turned_judged}
use Rattle.journal_opening.proofs.resuming.accepted.Goals as goal

pub returns-in-Some-clause-err : goal.returns-in-Some-clause-err
returns-in-Some-clause-err g c = λ conf outbox outbox'.
    let e = c.in-Ok.ensures in
    turned_judged g.D.Disk.tells conf c.args.max_entries c.args.disk c.end.result outbox outbox'
    (subst (λ d. GoesOn (g.D.Disk.tells c.args.disk) (g.D.Disk.tells d)) (sym c.end.ensures) e.goes_on) c.in-Ok.recovered.0 c.in-Ok.recovered.1 c.in-Some.status e.recovered c.in-Some.ensures.judged

pub returns-in-Some-clause-back : goal.returns-in-Some-clause-back
returns-in-Some-clause-back g c =
    subst (λ d. GoesOn (g.D.Disk.tells c.args.disk) (g.D.Disk.tells d)) (sym c.end.ensures) c.in-Ok.ensures.goes_on

pub returns-in-Some-clause-why : goal.returns-in-Some-clause-why
returns-in-Some-clause-why g c =
    let r = c.in-Ok.ensures.recovered in
    inr (r.found, r.finds, r.good, c.in-Some.ensures.judged r.found r.good r.numbered)

pub returns-in-Err-clause-why : goal.returns-in-Err-clause-why
returns-in-Err-clause-why g c = inl c.in-Err.ensures.why
