use Rattle.std.proofs.Common.{◌∙◌, ◌+◌, [], length, sym, ap, subst}
use Rattle.footprint.specs.Rows.{row_at, IsNoted, IsTurned}
use Rattle.footprint.proofs.RowLemmas.{turned_more, turned_none}
use Rattle.std.proofs.lemmas.List.{length-replicate}
use Rattle.footprint.proofs.rows.turned.Goals as goal

pub loop-place-init : goal.loop-place-init
loop-place-init g c = record {
  size = ap length c.in_ok-made.ensures ∙ length-replicate (length c.args.all.now + 1) [];
  rows = subst (λ rows. IsTurned (length c.args.all.now + 1) 0 c.args.rows.now rows) (sym c.in_ok-made.ensures) (turned_none (length c.args.all.now + 1) c.args.rows.now);
}

pub loop-place-preserved : goal.loop-place-preserved
loop-place-preserved g c = record {
  size = c.in_ok-enter.ensures.size ∙ c.loop-place.invariant.size;
  rows = turned_more (length c.args.all.now + 1) c.loop-place.place c.args.rows.now c.loop-place.made.items c.enter.new.rows.items c.row_at.result.now c.loop-place.invariant.size
      (c.row_at.ensures ∙ ap (λ k. row_at c.args.rows.now k) c.in_ok-id.ensures) c.loop-place.invariant.rows
      (subst (λ k. IsNoted c.loop-place.made.items c.row_at.result.now k c.enter.new.rows.items) c.in_ok-id.ensures c.in_ok-enter.ensures.rows);
}
