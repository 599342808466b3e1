use Rattle.std.proofs.Common.{arith, take, length-take}
use Rattle.item_key.proofs.FrontKeys.{found, no_longer, none, place}
use Rattle.item_key.specs.Machine.{IsLongestEnd}
use Rattle.item_key.proofs.reading.read.Goals as goal

pub returns-then-length-eq0-clause-place : goal.returns-then-length-eq0-clause-place
returns-then-length-eq0-clause-place c =
    let e : IsLongestEnd (take 2048 c.args.text.now) 0 = rw (c.front.ensures, c.if-length-eq0.true) at c.longest-length.ensures in
    (none c.args.text.now e, place c.args.text.now (none c.args.text.now e))

pub returns-else-length-eq0-clause-key : goal.returns-else-length-eq0-clause-key
returns-else-length-eq0-clause-key c =
    let e : IsLongestEnd (take 2048 c.args.text.now) c.longest-length.result = rw c.front.ensures at c.longest-length.ensures in
    found c.args.text.now c.longest-length.result (omega arith) e

pub returns-else-length-eq0-clause-longest : goal.returns-else-length-eq0-clause-longest
returns-else-length-eq0-clause-longest c =
    let e : IsLongestEnd (take 2048 c.args.text.now) c.longest-length.result = rw c.front.ensures at c.longest-length.ensures in
    no_longer c.args.text.now c.longest-length.result e

pub longest-length-requires : goal.longest-length-requires
longest-length-requires c = rw c.front.ensures (omega (arith, length-take 2048 c.args.text.now))
