use Rattle.wire_core.proofs.Others.{leaves_others}
use Rattle.wire_core.proofs.table.Table.on.Goals as goal

pub returns-clause-others : goal.returns-clause-others
returns-clause-others c = leaves_others c.take-turn.result _ _ c.args.now c.args.event.now c.take-turn.ensures.after c.take-turn.ensures.err
