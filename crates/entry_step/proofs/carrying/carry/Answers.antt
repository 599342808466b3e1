use Rattle.std.proofs.Common.{◌∙◌, ap, map}
use Rattle.std.specs.Arc.{arc_value}
use Rattle.zbx_types.specs.declared.entries.Cause2.TheVariants as causes
use Rattle.trigger_state.specs.Stages.{Stage}
use Rattle.trigger_state.specs.declared.stage.Origin.{Origin}
use Rattle.std.specs.Prelude.{List}
use Rattle.entry_step.specs.Records.{recovery_of}
use Rattle.entry_step.proofs.CarryingOver.{left_is, went_on_is, carries}
use Rattle.entry_step.proofs.carrying.carry.Goals as goal

pub returns-clause-ok : goal.returns-clause-ok
returns-clause-ok c =
    let old = c.args.old.now in
    let was = c.args.new.now in
    let before = c.cells.inside.items in
    let after = c.carry.new.self in
    let problems = c.cells.inside.problems.items in
    let rows = c.in_ok-rows.field-0.rows.items in
    let gone = c.in_ok-rows.field-0.gone in
    let origins = c.in_ok-rows.field-0.origins.items in
    carries old was c.know.new.self c.args.number c.args.now c.args.cells.now before after problems rows c.cells.inside.tick (arc_value c.cells.inside.cache) gone origins c.in_ok-made.made c.cells.view_is
    (left_is old was.conf c.conf.result.now c.conf-2.result.now c.order.result.now c.as_slice.result.now problems rows gone origins c.conf.ensures c.conf-2.ensures c.order.ensures c.as_slice.ensures.value c.in_ok-rows.ensures.rows c.in_ok-rows.ensures.gone c.in_ok-rows.ensures.origins)
    (went_on_is old was.conf c.conf-3.result.now c.conf-4.result.now c.args.now before after c.conf-3.ensures c.conf-4.ensures c.in_ok-carry.ensures.ok)
    (c.in_ok-made.ensures ∙ ap (map (recovery_of c.args.number c.args.now causes.Removed)) c.as_slice-2.ensures)
    (c.know.ensures ∙ ap (λ (os : List Origin). (let s : Stage = record { conf = was.conf; origins = os } in s)) c.in_ok-told.ensures.origins)

pub invariant_of-cells-2 : goal.invariant_of-cells-2
invariant_of-cells-2 c = c.carry.ensures.of (arc_value c.cells.inside.cache) c.cells.invariant
