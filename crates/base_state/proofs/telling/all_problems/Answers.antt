use Rattle.std.proofs.Common.{◌∙◌, ap}
use Rattle.zbx_types.specs.Records.{event_of}
use Rattle.zbx_types.specs.declared.base.BaseProblem.{BaseProblem}
use Rattle.trigger_state.specs.Stages.{Stage}
use Rattle.entry_step.specs.Order.{by_event}
use Rattle.base_state.proofs.Told.{told_in_order}
use Rattle.base_state.proofs.telling.all_problems.Goals as goal

pub returns : goal.returns
returns c =
    told_in_order c.args.ready.now c.args.rows.now c.order.result.now c.in_ok-told.told.items c.from_vec.result c.order.ensures c.in_ok-told.ensures
    (c.from_vec.ensures ∙ c.in_ok-made.ensures ∙ ap (λ (s : Stage). by_event s (λ (p : BaseProblem). event_of p.problem) c.in_ok-told.told.items) c.stage.ensures)
