use Rattle.std.proofs.Common.{arith}
use Rattle.history_functions.proofs.Looking.{min_more}
use Rattle.history_functions.proofs.numbers.min.Goals as goal

pub loop-place-preserved : goal.loop-place-preserved
loop-place-preserved c =
    min_more c.args.window.now c.loop-place.place c.number_at.result c.loop-place.least c.lesser-least.result _ (omega arith) c.number_at.ensures c.lesser-least.ensures c.loop-place.invariant
