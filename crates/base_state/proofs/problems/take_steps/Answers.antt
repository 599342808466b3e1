use Rattle.std.proofs.Common.{rules, ◌∷◌, []}
use Rattle.zbx_types.specs.Records.{event_of}
use Rattle.base_laws.specs.Bases.{read_ran}
use Rattle.entry_step.specs.Changes.{Absorbed}
use Rattle.base_laws.specs.Restoring.{IsHoused}
use Rattle.base_state.proofs.Housing.{taken_step}
use Rattle.base_state.proofs.problems.take_steps.Goals as goal

pub loop-one-preserved : goal.loop-one-preserved
loop-one-preserved c =
    let event = event_of c.args.problem.now in
    let second : IsHoused c.args.stage.now c.loop-one.rows.items event → Absorbed c.args.stage.now c.loop-one.rows.items (read_ran event c.one-item.result ∷ []) c.take-taken.new.rows.items = search rules in
    taken_step c.args.stage.now c.args.rows.now.items c.loop-one.rows.items c.take-taken.new.rows.items event c.args.ran.now c.loop-one.one-index c.one-item.result c.loop-one-test.true c.one-item.is c.loop-one.invariant second
