use Rattle.std.proofs.Common.{[], length, replicate, subst}
use Rattle.zbx_types.specs.declared.conf.Conf.{Conf}
use Rattle.trigger_state.specs.Stages.{Stage}
use Rattle.base_laws.specs.Bases.{start_records}
use Rattle.base_laws.specs.Restoring.{AreHoused}
use Rattle.entry_step.specs.Changes.{Absorbed}
use Rattle.base_state.specs.Restoring.{AreRestored}
use Rattle.base_state.proofs.Restored.{restored}
use Rattle.base_state.proofs.restoring.cells_of.Goals as goal

pub returns-clause-holds : goal.returns-clause-holds
returns-clause-holds c =
    restored c.args.ready.now.conf c.args.ready.now c.args.base.now c.in_ok-items.items c.in_ok-rows.rows.items c.of.result c.requires.fits c.requires.known
    (subst (λ (k : Conf). AreRestored k c.args.base.now (length c.args.base.now.items) c.in_ok-items.items) c.conf.ensures c.in_ok-items.ensures.restored)
    (subst (λ (s : Stage). AreHoused s (replicate (length s.conf.triggers) []) c.args.base.now.problems → Absorbed s (replicate (length s.conf.triggers) []) (start_records c.args.base.now) c.in_ok-rows.rows.items) c.stage.ensures
    c.in_ok-rows.ensures)
    c.of.ensures.items c.of.ensures.memories c.of.ensures.problems c.of.ensures.tick
