use Rattle.std.proofs.Common.{◌∙◌, ◌-◌, [], ap, map, get_or}
use Rattle.trigger_state.specs.Stages.{Stage}
use Rattle.conf_index.specs.Plans.{recovery_plan_of}
use Rattle.conf_index.proofs.Planned.{plan_at}
use Rattle.conf_index.proofs.index.Ready.recovery_plan.Goals as goal

pub returns : goal.returns
returns c = λ trigger found.
    plan_at recovery_plan_of c.args.self.now.conf.triggers c.row.result.now c.args.id trigger
    (c.row.ensures ∙ c.self.invariant.by_recovery c.saturating_sub.result ∙ ap (λ n. get_or (map recovery_plan_of c.self.inside.stage.conf.triggers) n []) c.saturating_sub.ensures
    ∙ ap (λ (s : Stage). get_or (map recovery_plan_of s.conf.triggers) (c.args.id - 1) []) c.self.view_is) found
