use Rattle.std.proofs.Common.{◌≡◌}
use Rattle.alert_sessions.specs.Runs.{Counts}
use Rattle.alert_sessions.proofs.session.go_on.Given as goal

abbrev pub invariant-turns : goal.invariant-turns
invariant-turns g l =
    (goal.iterator-turns g).can_next l.iterator' × (goal.iterator-turns g).is_finite l.iterator'
    × (l.mine.failures.parts ≡ l.fn.mine.failures.parts) × (l.mine.successes.parts ≡ l.fn.mine.successes.parts)
    × Counts l.orders l.fn.mine.failures.amount l.mine.failures.amount l.fn.mine.successes.amount l.mine.successes.amount (g.W.Spawner.tells l.fn.hand.spawner) (g.W.Spawner.tells l.hand.spawner)
