use Rattle.std.proofs.Common.{rules, ◌≡◌, Some, ◌∙◌, ap, refl, List, Option, ℤ}
use Rattle.zbx_types.specs.Ids.{at_id}
use Rattle.entry_step.specs.Represents.{problems_at}
use Rattle.conf_index.specs.Evaluation.{value_in}
use Rattle.entry_step.proofs.Landing.{outcome_is}
use Rattle.entry_step.proofs.Represented.{ok_sub}
use Rattle.entry_step.proofs.stepping.outcome_of.Goals as goal

pub returns-clause-records : goal.returns-clause-records
returns-clause-records c =
    let there : at_id c.args.scene.now.ready.now.conf.triggers c.args.id ≡ Some c.in-Some.trigger.now = search rules in
    ok_sub c.judge.result _ _
    (λ made e histories sees.
    e histories sees ∙ outcome_is c.args.scene.now.ready.now c.args.scene.now.ready.now c.args.scene.now.occasion (value_in c.as_slice-2.result.now) histories (problems_at c.args.problems.now) c.args.id c.in-Some.trigger.now
    c.held_by-held.result c.masters.result.now refl (λ place. ap (λ (vs : List (Option ℤ)). value_in vs place) c.as_slice-2.ensures ∙ c.in_ok-values.ensures histories sees place) there c.masters.ensures c.held_by-held.ensures)
    c.judge.ensures.records
