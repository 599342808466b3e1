use Rattle.value_cases.proofs.cells.empty.Goals as goal

pub invariant_of-result : goal.invariant_of-result
invariant_of-result c = c.new-2.ensures.of c.in_ok-new.field-0
