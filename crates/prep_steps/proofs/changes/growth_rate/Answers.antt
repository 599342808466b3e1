use Rattle.std.proofs.Common.{◌≤◌, ◌^◌, unsigned_abs}
use Rattle.prep_steps.proofs.RateLemmas.{rate_is}
use Rattle.prep_steps.proofs.changes.growth_rate.Goals as goal

pub returns : goal.returns
returns c =
    let number = c.raw.ensures in
    let before = c.raw-2.ensures in
    let b : unsigned_abs c.args.before ≤ 10 ^ 30 = rw (← before.value) before.range in
    let z : unsigned_abs c.args.number ≤ 10 ^ 30 = rw (← number.value) number.range in
    let g = rw (number.value, before.value) at c.unsigned_abs-growth.ensures.value in
    let r = rw c.from.ensures at c.of_raw.ensures in
    rate_is c.args.before c.args.number _ c.in_ok-dividend.dividend c.args.nanoseconds c.of_raw.result b z g (c.in_ok-dividend.ensures.1) c.if-dividend-gt-MOST.false r
