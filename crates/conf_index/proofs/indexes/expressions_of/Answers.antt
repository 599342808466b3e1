use Rattle.std.proofs.Common.{◌∙◌, [], ap, map, get_or, List}
use Rattle.zbx_types.specs.declared.triggers.Trigger.{Trigger}
use Rattle.conf_index.specs.Plans.{plan_of, recovery_plan_of}
use Rattle.conf_index.proofs.indexes.expressions_of.Goals as goal

pub returns-clause-by_trigger : goal.returns-clause-by_trigger
returns-clause-by_trigger c = λ n. c.in_ok-plans.ensures n ∙ ap (λ (ts : List Trigger). get_or (map plan_of ts) n []) c.as_slice.ensures

pub returns-clause-by_recovery : goal.returns-clause-by_recovery
returns-clause-by_recovery c = λ n. c.in_ok-recoveries.ensures n ∙ ap (λ (ts : List Trigger). get_or (map recovery_plan_of ts) n []) c.as_slice-2.ensures
