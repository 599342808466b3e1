use Rattle.std.proofs.Common.{arith}
use Rattle.std.proofs.lemmas.Int.{ints}
use Rattle.json_path.proofs.SelectionLemmas.{there, not_there, out_of_range}
use Rattle.json_path.proofs.selecting.element_from_front.Goals as goal

pub returns-then-place-count : goal.returns-then-place-count
returns-then-place-count c = there c.args.elements.now c.args.place c.in-Ok.place c.index-elements-place.result (omega (arith, ints, c.in-Ok.ensures)) c.if-place-count.true c.index-elements-place.is

pub returns-else-place-count : goal.returns-else-place-count
returns-else-place-count c = not_there c.args.elements.now c.args.place c.in-Ok.place (omega (arith, ints, c.in-Ok.ensures)) (omega arith)

pub returns-in-Err : goal.returns-in-Err
returns-in-Err c = out_of_range c.args.elements.now c.args.place (omega arith) (λ h. c.in-Err.ensures (omega (arith, ints), omega (arith, ints)))
