use Rattle.alert_sessions.proofs.Sums.{together_lone}
use Rattle.alert_sessions.proofs.spread.lone.Goals as goal

pub returns-clause-counts : goal.returns-clause-counts
returns-clause-counts g c =
    let failures = g.T.Tokens.failures in
    let successes = g.T.Tokens.successes in
    together_lone g.H.Counted.tells c.args.orders.now (failures c.args.mine.now) (failures c.work.new.mine) (successes c.args.mine.now) (successes c.work.new.mine)
    c.args.hands.now c.index-hands-0.result c.work.new.hand c.requires.one c.work.ensures.counts
