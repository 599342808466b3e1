use Rattle.std.proofs.Common.{map, rules, arith}
use Rattle.alert_sessions.specs.Runs.{CountTogether}
use Rattle.alert_sessions.proofs.Sums.{together_halves}
use Rattle.alert_sessions.proofs.spread.+fn-spread-join_mut+arg2+fn-spread-join_mut+arg3+spread.Goals as goal

pub returns-clause-counts : goal.returns-clause-counts
returns-clause-counts g t c =
    let failures = g.T.Tokens.failures in
    let successes = g.T.Tokens.successes in
    let tells = g.H.Counted.tells in
    let orders = c.args.orders.now in
    let front = c.split_at_mut-front.result.0.now in
    let back = c.split_at_mut-front.result.1.now in
    let theirs = c.split_off-given.result in
    let own = c.split_off-given.new.self in
    let one : CountTogether orders (failures theirs) (failures c.given-2-1.given.0) (successes theirs) (successes c.given-2-1.given.0) (map tells front) (map tells c.front-1.given.0) = search rules in
    let two : CountTogether orders (failures own) (failures c.mine-1.given.0) (successes own) (successes c.mine-1.given.0) (map tells back) (map tells c.back-1.given.0) = search rules in
    together_halves tells orders (failures theirs) (failures c.given-2-1.given.0) (successes theirs) (successes c.given-2-1.given.0) (failures own) (failures c.mine-1.given.0) (successes own) (successes c.mine-1.given.0)
    (failures c.args.mine.now) (failures c.merge.new.self) (successes c.args.mine.now) (successes c.merge.new.self) c.args.hands.now front back c.front-1.given.0 c.back-1.given.0 c.split_at_mut-front.ensures.value one two
    (omega (arith, c.split_off-given.ensures.left, c.split_off-given.ensures.given)) (omega (arith, c.merge.ensures.amounts)) (omega (arith, c.split_off-given.ensures.left, c.split_off-given.ensures.given)) (omega (arith, c.merge.ensures.amounts))
