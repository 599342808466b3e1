use Rattle.std.proofs.Common.{subst}
use Rattle.std.proofs.lemmas.List.Elements.{All-more}
use Rattle.intake_journal.proofs.Parts.{part_added}
use Rattle.intake_journal.proofs.base_encoding.put_all.Goals as goal

pub loop-part-preserved : goal.loop-part-preserved
loop-part-preserved g c =
    let parts = c.args.parts.now in
    let i = c.loop-part.part-index in
    let part = c.part-item.result in
    record {
      out = part_added g.W.Written.bytes parts i part c.put.new.out c.loop-part.out c.args.out.now c.loop-part-test.true c.part-item.is c.loop-part.invariant.out c.in_ok-put.ensures.ok;
      typed = All-more g.W.Written.typed parts i part c.loop-part-test.true c.loop-part.invariant.typed (subst g.W.Written.typed c.part-item.is c.in_ok-put.ensures.typed);
    }
