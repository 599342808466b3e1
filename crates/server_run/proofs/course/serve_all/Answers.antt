use Rattle.std.proofs.Common.{subst}
use Rattle.server_run.specs.declared.serving.Taken.{Taken}
use Rattle.server_run.specs.Going.{HasServed}
use Rattle.server_run.proofs.Going.{takes_worse, takes_fault, takes_then, ended_worse}
use Rattle.server_run.proofs.course.serve_all.Goals as goal

pub returns-in-Ended-clause-takes : goal.returns-in-Ended-clause-takes
returns-in-Ended-clause-takes g c =
    let h = subst (λ (t : Taken). HasServed g.D.Disk.tells g.S.StartName.flat g.S.StartName.base g.S.StartName.start.stage.conf g.S.StartName.kept c.args.front.now c.serve_syncers-book.new.front (g.W.Wire.tells c.args.wire.now) (g.W.Wire.tells c.serve_syncers-book.new.wire) c.serve_syncers-book.new.head c.args.turns t) c.in-Ended.is c.serve_syncers-book.ensures in
    takes_worse g.D.Disk.tells g.S.StartName.base g.S.StartName.flat _ g.S.StartName.kept c.args.front.now c.serve_syncers-book.new.front _ _ c.serve_syncers-book.new.head _ _ c.failing-status.result c.failing-status.ensures.worse h.served.0.wire h.takes

pub returns-in-Ended-clause-ended : goal.returns-in-Ended-clause-ended
returns-in-Ended-clause-ended g c =
    let h = subst (λ (t : Taken). HasServed g.D.Disk.tells g.S.StartName.flat g.S.StartName.base g.S.StartName.start.stage.conf g.S.StartName.kept c.args.front.now c.serve_syncers-book.new.front (g.W.Wire.tells c.args.wire.now) (g.W.Wire.tells c.serve_syncers-book.new.wire) c.serve_syncers-book.new.head c.args.turns t) c.in-Ended.is c.serve_syncers-book.ensures in
    ended_worse g.D.Disk.tells g.S.StartName.base g.S.StartName.flat g.S.StartName.start.stage.conf _ c.args.front.now c.serve_syncers-book.new.front _ _ _ c.args.turns _ c.failing-status.result c.failing-status.ensures.worse h.served.0

pub returns-then-has_failed-clause-takes : goal.returns-then-has_failed-clause-takes
returns-then-has_failed-clause-takes g c =
    let h = subst (λ (t : Taken). HasServed g.D.Disk.tells g.S.StartName.flat g.S.StartName.base g.S.StartName.start.stage.conf g.S.StartName.kept c.args.front.now c.serve_syncers-book.new.front (g.W.Wire.tells c.args.wire.now) (g.W.Wire.tells c.serve_syncers-book.new.wire) c.serve_syncers-book.new.head c.args.turns t) c.in-Going.is c.serve_syncers-book.ensures in
    takes_fault g.D.Disk.tells g.S.StartName.base _ _ _ c.args.front.now c.serve_syncers-book.new.front _ _ _ _ _ h

pub returns-else-has_failed-clause-takes : goal.returns-else-has_failed-clause-takes
returns-else-has_failed-clause-takes g c =
    let h = subst (λ (t : Taken). HasServed g.D.Disk.tells g.S.StartName.flat g.S.StartName.base g.S.StartName.start.stage.conf g.S.StartName.kept c.args.front.now c.serve_syncers-book.new.front (g.W.Wire.tells c.args.wire.now) (g.W.Wire.tells c.serve_syncers-book.new.wire) c.serve_syncers-book.new.head c.args.turns t) c.in-Going.is c.serve_syncers-book.ensures in
    takes_then g.D.Disk.tells g.S.StartName.base _ _ _ c.args.front.now c.serve_syncers-book.new.front _ _ _ _ c.serve_alone-status.new.front _ c.serve_alone-status.new.head _ h _ c.serve_alone-status.ensures.takes
