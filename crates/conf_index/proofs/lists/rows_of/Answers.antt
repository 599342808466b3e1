use Rattle.std.proofs.Common.{◌≡◌, ◌<◌, length, get_or, ap, subst, ◌∙◌}
use Rattle.zbx_types.specs.Ids.{at_id}
use Rattle.conf_index.specs.Order.{order}
use Rattle.conf_index.specs.Index.{listed, is_over_below}
use Rattle.conf_index.proofs.Listing.{over_more}
use Rattle.conf_index.proofs.lists.rows_of.Goals as goal

pub loop-id-preserved : goal.loop-id-preserved
loop-id-preserved c = λ q.
    let ids : c.as_slice-id-items.result.now ≡ order c.args.conf.now = c.as_slice-id-items.ensures ∙ c.in_ok-ids.ensures in
    over_more (λ id. is_over_below c.args.conf.now q (at_id c.args.conf.now.triggers id)) (order c.args.conf.now) (listed c.loop-id.over.items q) (listed c.enter_by_id.new.over.items q) c.loop-id.id-index (get_or c.as_slice-id-items.result.now c.loop-id.id-index 0)
    (subst (λ is. c.loop-id.id-index < length is) ids c.loop-id-test.true) (ap (λ is. get_or is c.loop-id.id-index 0) ids) (c.loop-id.invariant q) (c.in_ok-enter_by_id.ensures q)
