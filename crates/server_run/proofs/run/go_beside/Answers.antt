use Rattle.std.proofs.Common.{refl, ap}
use Rattle.server_run.proofs.Runs.{opened_behind}
use Rattle.server_run.proofs.Outbox.{left_so}
use Rattle.server_run.proofs.Whole.{refused_so_far, gone_so_far}
use Rattle.server_run.proofs.run.go_beside.Goals as goal

pub run_beside-requires-clause-opened : goal.run_beside-requires-clause-opened
run_beside-requires-clause-opened g c = λ κs within. opened_behind g.D.Disk.tells _ _ _ _ _ _ c.in-Ok.ensures.ok _ refl _ refl

pub returns-in-Err-clause-line : goal.returns-in-Err-clause-line
returns-in-Err-clause-line g c = refused_so_far _ _ _ _ _ _ _ refl c.open.ensures.taken (c.in-Err.ensures.err _ _ (g.O.Sink.tells c.args.outbox) (g.O.Sink.tells c.args.outbox)) refl (left_so (g.O.Sink.tells c.args.outbox))

pub returns-clause-line : goal.returns-clause-line
returns-clause-line g c =
    let s = c.run_beside.ensures in
    gone_so_far g.D.Disk.tells g.O.Sink.tells _ _ _ _ _ _ _ _ c.in-Ok.ensures.ok _ refl _ refl _ _ _ _ s.gone c.open.ensures.taken
    (λ f. let u = s.untouched f in (ap g.W.Wire.tells u.0, u.1))
