use Rattle.std.proofs.Common.{◌<◌, length, rules}
use Rattle.alert_sessions.proofs.Sums.{together_on, worked}
use Rattle.alert_sessions.proofs.working.work_named.Goals as goal

pub returns-clause-worked : goal.returns-clause-worked
returns-clause-worked g c =
    let some : 0 < length c.spread.new.hands = search rules in
    worked c.args.orders.now g.N.CallName.start g.N.CallName.kept c.finish.result.marks.list _ _ _ _ c.finish.result.stopped _ _ c.finish.ensures.call
    (together_on (λ h. g.W.Spawner.tells h.spawner) c.args.orders.now _ _ _ _ _ _ _ c.spread.new.hands c.index-hands-0.result c.go_on.new.hand some c.spread.ensures.counts c.go_on.ensures.counts)
    c.open-failed.ensures.amount c.open-good.ensures.amount
