use Rattle.server_words.proofs.Pieces.{three}
use Rattle.server_words.proofs.printing.put_marks.Goals as goal

pub returns : goal.returns
returns c = three _ _ _ _ _ _ _ _ c.in_ok-put_count.ensures c.in_ok-put_count-2.ensures c.put_count-3.ensures
