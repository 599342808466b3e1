use Rattle.std.proofs.Common.{subst, sym}
use Rattle.server_run.specs.Runs.{Opened}
use Rattle.server_run.proofs.Runs.{opened, unbegun_turned}
use Rattle.server_run.proofs.Results.{on_err, on_ok}
use Rattle.server_run.proofs.opening.open.Goals as goal

pub returns-in-Ok-clause-err : goal.returns-in-Ok-clause-err
returns-in-Ok-clause-err g c =
    on_err c.resume_setup.result _ _ (λ r away wire wire' outbox outbox'. unbegun_turned c.args.words.now _ _ _ _ wire wire' outbox outbox' _ _ _ (g.D.Disk.tells c.args.disk) (g.D.Disk.tells r.disk) r.entries r.status c.in-Ok.ensures.ok (away outbox outbox')) c.resume_setup.ensures.err

pub returns-in-Ok-clause-ok : goal.returns-in-Ok-clause-ok
returns-in-Ok-clause-ok g c =
    let tells = g.D.Disk.tells in
    let words = c.args.words.now in
    let source = g.S.Source.left c.args.config.now in
    let source' = g.S.Source.left c.set_up.new.config in
    let setup = c.in-Ok.setup in
    on_ok c.resume_setup.result _ _ (λ b is.
    subst (λ n. Opened tells words source source' c.args.disk n b.front) (sym is.0)
    (opened tells words source source' setup.turns setup.max_entries setup.ready.conf c.args.disk b.front c.in-Ok.ensures.ok is.1)) c.resume_setup.ensures.ok
