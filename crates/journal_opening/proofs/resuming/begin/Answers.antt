use Rattle.std.proofs.Common.{subst, sym}
use Rattle.journal_opening.specs.Replayed.{flat}
use Rattle.journal_opening.specs.Resumed.{TurnedAway}
use Rattle.journal_opening.proofs.Beginning.{flat_is, has_begun, turned_at_front}
use Rattle.journal_opening.proofs.resuming.begin.Goals as goal

pub returns-in-Ok-clause-ok : goal.returns-in-Ok-clause-ok
returns-in-Ok-clause-ok g c = λ most old confs is t.
    let e = c.in-Ok.ensures in
    has_begun g.D.Disk.tells c.args.ready.now.conf most old c.args.journal c.args.kept confs t c.in-Ok.front e.made (λ ground stands. e.sound flat ground (flat_is c.args.ready.now.conf.text c.args.ready.now.conf is) stands) (λ some passes. (e.full some passes).0)
    e.idle e.durable e.state e.base e.later e.told e.any_moment

pub returns-in-Err-clause-err : goal.returns-in-Err-clause-err
returns-in-Err-clause-err g c = λ most old confs outbox outbox' t.
    let e = c.in-Err.ensures in
    let u = c.in-Err.unmade in
    subst (λ s. TurnedAway c.args.ready.now.conf most (g.D.Disk.tells old) (g.D.Disk.tells u.disk) outbox outbox' u.kept s) (sym c.status_of.ensures)
    (turned_at_front g.D.Disk.tells c.args.ready.now.conf most old c.args.journal c.args.kept confs t outbox outbox' u.disk u.kept u.error e.back e.only_full e.fault e.same e.later e.told e.any_moment)
