use Rattle.entry_laws.proofs.Previous.{fresh_has_marks}
use Rattle.entry_laws.proofs.laws.fresh_has_marks.Goals as goal

pub returns : goal.returns
returns c = fresh_has_marks
