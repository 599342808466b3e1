use Rattle.std.proofs.Common.{subst}
use Rattle.std.specs.List.{All}
use Rattle.intake_journal.specs.BaseTypes.{IsValueTyped, IsStepTyped}
use Rattle.intake_journal.proofs.base_encoding.ItemsWritten.put.Goals as goal

pub returns-clause-typed : goal.returns-clause-typed
returns-clause-typed c = record {
  values = subst (All IsValueTyped) c.as_slice.ensures c.in_ok-put_list.ensures.typed;
  steps = subst (All IsStepTyped) c.as_slice-2.ensures c.in_ok-put_list-2.ensures.typed;
}
