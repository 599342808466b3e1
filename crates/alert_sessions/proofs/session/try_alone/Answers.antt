use Rattle.alert_sessions.proofs.Sums.{ran_counts}
use Rattle.alert_sessions.proofs.session.try_alone.Goals as goal

pub returns-in-Ok-clause-counts : goal.returns-in-Ok-clause-counts
returns-in-Ok-clause-counts g c =
    ran_counts c.args.orders.now c.args.mine.now.failures.amount c.settle.new.mine.failures.amount c.args.mine.now.successes.amount c.settle.new.mine.successes.amount
    (g.W.Spawner.tells c.args.hand.now.spawner) (g.W.Spawner.tells c.run_note.new.spawner) c.in-Ok.ok c.in-Ok.ensures.ran c.settle.ensures.failures c.settle.ensures.successes
