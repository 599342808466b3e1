use Rattle.std.proofs.Common.{rules, arith, ◌≤◌, ◌+◌, length, take}
use Rattle.std.proofs.lemmas.List.{length-take}
use Rattle.whole_texts.proofs.Pieces.{reads_piece}
use Rattle.whole_texts.proofs.reading.read_all.Goals as goal

pub returns-then-is_err-clause-taken : goal.returns-then-is_err-clause-taken
returns-then-is_err-clause-taken g c =
    let room : length c.read.new.into + length c.loop.text ≤ c.args.most + 1 = search rules in
    let few : length c.loop.text + length (take c.in-Ok.count c.read.new.into) ≤ c.args.most + 1 = omega (arith, room, length-take c.in-Ok.count c.read.new.into) in
    reads_piece c.args.most _ _ _ c.loop.text (take c.in-Ok.count c.read.new.into) c.loop.invariant.taken c.in-Ok.ensures.bytes.0 few
