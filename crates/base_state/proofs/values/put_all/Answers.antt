use Rattle.std.proofs.Common.{◌<◌, length, subst}
use Rattle.base_state.specs.Restoring.{PutsAt}
use Rattle.base_state.proofs.Restored.{one_restored}
use Rattle.base_state.proofs.values.put_all.Goals as goal

pub loop-place-preserved : goal.loop-place-preserved
loop-place-preserved c = record {
  restored =
      one_restored c.args.conf.now c.args.base.now c.requires.fits c.loop-place.place (subst (λ rows. c.loop-place.place < length rows) c.as_slice-rows.ensures c.loop-place-test.true) c.loop-place.items c.put_at.new.items c.loop-place.invariant.restored
      (subst (λ i. PutsAt c.args.conf.now c.args.base.now.now c.args.base.now.items i c.loop-place.items c.put_at.new.items) c.in_ok-id_of.ensures
      (subst (λ rows. PutsAt c.args.conf.now c.args.base.now.now rows c.in_ok-id_of.field-0 c.loop-place.items c.put_at.new.items) c.as_slice-rows.ensures c.in_ok-put_at.ensures.puts));
  of = λ h. c.put_at.ensures.of (c.loop-place.invariant.of h);
}
