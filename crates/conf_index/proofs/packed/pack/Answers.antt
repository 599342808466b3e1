use Rattle.std.proofs.Common.{◌≡◌, ◌++◌, ◌∙◌, ap}
use Rattle.conf_index.proofs.Packing.{packed_more, packed_all}
use Rattle.conf_index.proofs.packed.pack.Goals as goal

pub loop-ids-preserved : goal.loop-ids-preserved
loop-ids-preserved c =
    let added : c.add_all.new.ids ≡ c.loop-ids.made.items ++ c.ids-item.result =
    c.in_ok-add_all.ensures ∙ ap (λ ys. ys ++ c.as_slice.result.now) c.in_ok-begin.ensures.items ∙ ap (λ ys. c.loop-ids.made.items ++ ys) c.as_slice.ensures in
    packed_more c.args.rows.now c.loop-ids.ids-index c.ids-item.result c.loop-ids.made.starts c.begin.new.packed.starts c.loop-ids.made.items c.add_all.new.ids
    c.loop-ids-test.true c.ids-item.is c.in_ok-begin.ensures.starts added c.loop-ids.invariant

pub returns : goal.returns
returns c = λ number. packed_all c.args.rows.now c.loop-ids.ids-index c.loop-ids.made.starts c.loop-ids.made.items number c.loop-ids-test.false c.loop-ids.invariant
