use Rattle.std.proofs.Common.{arith, ◌+◌, ◌-◌, ◌*◌, suc, ◌<◌, length, drop, get_or}
use Rattle.std.proofs.Math.Seq.{drop-cons}
use Rattle.zbx_types.proofs.NumeralLemmas.{digits_after-ge}
use Rattle.zbx_types.proofs.digits.number_within.Goals as goal

pub returns-then-number-most : goal.returns-then-number-most
returns-then-number-most c fits =
    let i = c.loop-c.c-index in
    let ds = c.args.digits.now in
    let below : i < length ds = c.loop-c-test.true in
    let here = rw (drop-cons ds i 0 below) at c.loop-c.invariant.same in
    omega (arith, here, digits_after-ge (c.loop-c.number * 10 + (get_or ds i 0 - 48)) (drop (suc i) ds))
