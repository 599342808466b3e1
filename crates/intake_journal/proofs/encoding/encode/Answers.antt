use Rattle.std.proofs.lemmas.Result.{on_ok_weaker}
use Rattle.intake_journal.proofs.Again.{read_again}
use Rattle.intake_journal.proofs.encoding.encode.Goals as goal

pub returns-else-is_err-clause-again : goal.returns-else-is_err-clause-again
returns-else-is_err-clause-again c = on_ok_weaker c.put_all-done.result (λ typed short size. read_again c.args.entries.now typed short size) c.put_all-done.ensures.typed
