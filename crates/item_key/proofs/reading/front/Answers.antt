use Rattle.std.proofs.Common.{arith, sym}
use Rattle.std.proofs.lemmas.List.{take_all, length-take-le}
use Rattle.item_key.proofs.reading.front.Goals as goal

pub slice_bounds-result-end : goal.slice_bounds-result-end
slice_bounds-result-end c = sym (length-take-le 2048 c.args.text.now (omega arith))

pub returns-else-text-gt-LONGEST_KEY : goal.returns-else-text-gt-LONGEST_KEY
returns-else-text-gt-LONGEST_KEY c = sym (take_all 2048 c.args.text.now (omega arith))
