use Rattle.std.proofs.Common.{ap}
use Rattle.alert_sessions.proofs.Sums.{ran_counts, counts_same}
use Rattle.alert_sessions.proofs.session.try_note.Goals as goal

pub returns-in-Ok-clause-counts : goal.returns-in-Ok-clause-counts
returns-in-Ok-clause-counts g c =
    ran_counts c.args.orders.now c.args.mine.now.failures.amount c.settle.new.mine.failures.amount c.args.mine.now.successes.amount c.settle.new.mine.successes.amount
    (g.W.Spawner.tells c.args.hand.now.spawner) (g.W.Spawner.tells c.run_note.new.spawner) c.in-Ok.ok c.in-Ok.ensures.ran c.settle.ensures.failures c.settle.ensures.successes

pub returns-in-Err-clause-counts : goal.returns-in-Err-clause-counts
returns-in-Err-clause-counts g c =
    counts_same c.args.orders.now c.args.mine.now.failures.amount c.args.mine.now.successes.amount (g.W.Spawner.tells c.args.hand.now.spawner) (g.W.Spawner.tells c.run_note.new.spawner) (ap g.W.Spawner.tells c.in-Err.ensures.same)
