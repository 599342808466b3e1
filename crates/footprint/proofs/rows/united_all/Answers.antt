use Rattle.std.proofs.Common.{◌∙◌, refl, arith}
use Rattle.footprint.proofs.RowLemmas.{united_row, united_past}
use Rattle.footprint.proofs.rows.united_all.Goals as goal

pub loop-place-preserved : goal.loop-place-preserved
loop-place-preserved g c = record {
  size = omega (arith, c.in_ok-push.ensures.len, c.loop-place.invariant.size);
  rows = united_row c.args.all.now c.args.first.now c.args.second.now c.loop-place.made.items c.push.new.self.items c.in_ok-united.field-0 c.loop-place.place c.loop-place.invariant.size c.in_ok-push.ensures.items
      (c.in_ok-united.ensures ∙ rw (c.row_at.ensures, c.row_at-in-loop-place.ensures, c.in_ok-id.ensures) refl) c.loop-place.invariant.rows;
}

pub returns : goal.returns
returns g c id = united_past c.args.all.now c.args.first.now c.args.second.now c.loop-place.made.items c.loop-place.place c.requires (omega arith) c.loop-place.invariant.size c.loop-place.invariant.rows id
