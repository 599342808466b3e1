use Rattle.std.proofs.Common.{arith, ◌≡◌, ◌+◌, ◌-◌, ◌*◌, suc, ◌<◌, length, drop, get_or, false}
use Rattle.std.specs.Prelude.{nat_le}
use Rattle.std.proofs.lemmas.Bool.Decides.{nat_tests}
use Rattle.std.proofs.Math.Seq.{drop-cons}
use Rattle.zbx_types.specs.Numerals.{digits_after}
use Rattle.zbx_types.proofs.NumeralLemmas.{digits_after-ge}
use Rattle.zbx_types.proofs.digits.bounded.Goals as goal

pub returns-then-number-from : goal.returns-then-number-from
returns-then-number-from c =
    let i = c.loop-c.c-index in
    let ds = c.args.digits.now in
    let below : i < length ds = c.loop-c-test.true in
    let here = rw (drop-cons ds i 0 below) at c.loop-c.invariant.same in
    let more : c.args.most < digits_after 0 ds = omega (arith, here, digits_after-ge (c.loop-c.number * 10 + (get_or ds i 0 - 48)) (drop (suc i) ds)) in
    let test : nat_le (digits_after 0 ds) c.args.most ≡ false = grind (arith, nat_tests, more) in
    rw test
