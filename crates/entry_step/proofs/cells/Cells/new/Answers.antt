use Rattle.std.proofs.Common.{◌∙◌, [], replicate, ap}
use Rattle.std.specs.Arc.{arc_value}
use Rattle.entry_step.proofs.Represented.{holds_nothing}
use Rattle.entry_step.proofs.cells.Cells.new.Goals as goal

pub returns-clause-holds : goal.returns-clause-holds
returns-clause-holds c = holds_nothing c.args.conf.now c.in_ok-new.field-0 c.in_ok-no_problems.field-0.items (arc_value c.args.cache) c.in_ok-new.ensures.new (c.in_ok-no_problems.ensures ∙ ap (λ n. replicate n []) c.len.ensures)

pub invariant_of-result : goal.invariant_of-result
invariant_of-result c = c.in_ok-new.ensures.of (arc_value c.args.cache)
