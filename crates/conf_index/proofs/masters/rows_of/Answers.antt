use Rattle.std.proofs.Common.{rules, ◌<◌, ◌≤◌, length}
use Rattle.conf_index.proofs.Dependents.{masters_more, all_masters}
use Rattle.conf_index.proofs.masters.rows_of.Goals as goal

pub loop-place-preserved : goal.loop-place-preserved
loop-place-preserved c =
    let below : c.loop-place.place < length c.args.conf.now.triggers = search rules in
    masters_more c.args.conf.now c.loop-place.place c.in_ok-id_of.field-0 c.in_ok-masters.field-0 c.loop-place.rows.items c.push-in-loop-place.new.self.items below c.in_ok-id_of.ensures c.in_ok-masters.ensures c.loop-place.invariant
    c.in_ok-push-2.ensures.items

pub returns : goal.returns
returns c = let past : length c.args.conf.now.triggers ≤ c.loop-place.place = search rules in all_masters c.args.conf.now c.loop-place.place c.loop-place.rows.items past c.loop-place.invariant
