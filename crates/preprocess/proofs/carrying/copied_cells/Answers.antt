use Rattle.std.proofs.Common.{◌<◌, length, sym, subst}
use Rattle.std.specs.Prelude.{option_and_then}
use Rattle.zbx_types.specs.Ids.{at_id}
use Rattle.value_cache.specs.Cells.{CellView}
use Rattle.preprocess.specs.Carry.{still_kept}
use Rattle.preprocess.proofs.InCache.{in_more, plain_on, rows_on}
use Rattle.preprocess.proofs.carrying.copied_cells.Goals as goal

pub loop-place-preserved : goal.loop-place-preserved
loop-place-preserved c = record {
  keeps = plain_on (λ (x : CellView). x.keep) c.loop-place.made.items c.push.new.self.items c.args.keeps.now c.loop-place.place c.in_ok-cell_for.field-0 _ c.loop-place-test.true c.in_ok-push.ensures.items c.in_ok-cell_for.ensures.keep c.loop-place.invariant.keeps;
  values = rows_on (λ (x : CellView). x.values) (λ id. still_kept c.args.now (option_and_then (at_id c.args.cells.now) id)) c.loop-place.made.items c.push.new.self.items c.args.olds.now c.loop-place.place c.in_ok-cell_for.field-0 _
      (subst (λ n. c.loop-place.place < n) (sym c.requires) c.loop-place-test.true) c.in_ok-push.ensures.items c.in_ok-cell_for.ensures.values c.loop-place.invariant.values;
  of = λ cache h.
      in_more cache c.loop-place.made.items c.push.new.self.items c.in_ok-cell_for.field-0 c.in_ok-push.ensures.items (c.loop-place.invariant.of cache h) (c.in_ok-cell_for.ensures.of cache h);
}
