use Rattle.server_words.proofs.Pieces.{three}
use Rattle.server_words.proofs.printing.put_reason.Goals as goal

pub returns : goal.returns
returns c = three _ _ _ _ _ _ _ _ c.in_ok-push_str.ensures.ok c.in_ok-put_cause.ensures c.put_end.ensures
