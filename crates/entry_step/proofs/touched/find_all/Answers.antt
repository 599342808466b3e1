use Rattle.std.proofs.Common.{rules, ◌<◌, length}
use Rattle.entry_step.proofs.Touching.{ids_more}
use Rattle.entry_step.proofs.touched.find_all.Goals as goal

pub loop-place-preserved : goal.loop-place-preserved
loop-place-preserved g c =
    let below : c.loop-place.place < length c.args.all.now = search rules in
    ids_more c.args.all.now c.loop-place.place c.in_ok-id_of.field-0 c.loop-place.found.items c.push.new.self.items _ below c.in_ok-id_of.ensures c.in_ok-push.ensures.items c.loop-place.invariant
