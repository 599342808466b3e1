use Rattle.std.proofs.Common.{subst}
use Rattle.std.specs.List.{All}
use Rattle.intake_journal.specs.BaseTypes.{IsRanTyped}
use Rattle.intake_journal.proofs.base_encoding.ProblemsWritten.put.Goals as goal

pub returns-clause-typed : goal.returns-clause-typed
returns-clause-typed c = record {
  problem = c.in_ok-put_record.ensures.typed;
  ran = subst (All IsRanTyped) c.as_slice.ensures c.in_ok-put_list.ensures.typed;
}
