use Rattle.std.proofs.Common.{◌≡◌, ◌+◌, ◌∙◌, ap, arith, false, length, slice_index_or}
use Rattle.alert_queue.specs.New.{filled}
use Rattle.alert_queue.proofs.Fillings.{joined_length, filled_next}
use Rattle.alert_queue.proofs.filling.fill.Goals as goal

pub loop-place-preserved : goal.loop-place-preserved
loop-place-preserved c =
    let homes = c.args.homes.now in
    let marked = c.args.marked.now in
    let place = c.loop-place.place in
    let lanes = c.loop-place.lanes.items in
    record {
      filled = filled_next lanes c.join.new.lanes.items (filled c.args.lanes.now.items 1 homes marked) (place + 1) place homes marked c.loop-place-test.true c.requires.told
          c.in_ok-more.ensures.lanes c.loop-place.invariant.filled;
      count = ap length c.in_ok-more.ensures.lanes ∙ joined_length lanes (place + 1) (slice_index_or homes place 0) (slice_index_or marked place false) ∙ c.loop-place.invariant.count;
      left = omega (arith, c.in_ok-more.ensures.left, c.loop-place.invariant.left);
      few = omega (arith, c.in_ok-more.ensures.few, c.loop-place.invariant.few);
    }
