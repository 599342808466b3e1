use Rattle.std.proofs.Common.{◌+◌, drop, arith}
use Rattle.history_functions.specs.Values.{numbers}
use Rattle.history_functions.proofs.Looking.{nth_more, nth_found}
use Rattle.history_functions.proofs.numbers.nth.Goals as goal

pub returns-in-Ok : goal.returns-in-Ok
returns-in-Ok c =
    nth_found c.args.window.now c.loop-index.index c.loop-index.left c.in-Ok.number c.number_at.result _ (omega arith) c.number_at.ensures
    (c.in-Ok.ensures.found (numbers (drop (c.loop-index.index + 1) c.args.window.now))) c.loop-index.invariant

pub loop-index-preserved : goal.loop-index-preserved
loop-index-preserved c =
    nth_more c.args.window.now c.loop-index.index c.loop-index.left c.in-Err.less c.number_at.result _ (omega arith) c.number_at.ensures
    (c.in-Err.ensures.passed (numbers (drop (c.loop-index.index + 1) c.args.window.now))) c.loop-index.invariant
