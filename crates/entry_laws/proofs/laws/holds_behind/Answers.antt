use Rattle.entry_laws.proofs.Behind.{holds_behind}
use Rattle.entry_laws.proofs.laws.holds_behind.Goals as goal

pub returns : goal.returns
returns c = holds_behind
