use Rattle.std.proofs.Common.{arith}
use Rattle.history_functions.proofs.Looking.{max_more}
use Rattle.history_functions.proofs.numbers.max.Goals as goal

pub loop-place-preserved : goal.loop-place-preserved
loop-place-preserved c =
    max_more c.args.window.now c.loop-place.place c.number_at.result c.loop-place.greatest c.greater-greatest.result _ (omega arith) c.number_at.ensures c.greater-greatest.ensures c.loop-place.invariant
