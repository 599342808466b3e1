use Rattle.std.proofs.Common.{arith, ◌+◌, ◌*◌, suc, ◌<◌, length, drop, get_or}
use Rattle.std.proofs.Math.Seq.{drop-cons}
use Rattle.std.specs.Char.{digit_value}
use Rattle.prep_steps.proofs.RadixLemmas.{digits_value_after-ge}
use Rattle.prep_steps.proofs.digits.value_of.Goals as goal

pub returns-then-number-gt-MOST : goal.returns-then-number-gt-MOST
returns-then-number-gt-MOST c fits =
    let i = c.loop-c.c-index in
    let ds = c.args.digits.now in
    let below : i < length ds = c.loop-c-test.true in
    let here = rw (drop-cons ds i 0 below) at c.loop-c.invariant.same in
    let over = rw c.from.ensures at c.if-number-gt-MOST.true in
    let some : 0 < c.args.radix = omega arith in
    omega (arith, here, digits_value_after-ge c.args.radix (c.loop-c.number * c.args.radix + digit_value (get_or ds i 0)) (drop (suc i) ds) some)
