use Rattle.std.proofs.Common.{arith}
use Rattle.history_functions.proofs.Looking.{list_more}
use Rattle.history_functions.proofs.values.numbers.Goals as goal

pub loop-place-preserved : goal.loop-place-preserved
loop-place-preserved c =
    list_more c.args.window.now c.loop-place.place c.number_at.result c.loop-place.made c.add_number.new.made _ (omega arith) c.number_at.ensures c.in_ok-add_number.ensures c.loop-place.invariant
