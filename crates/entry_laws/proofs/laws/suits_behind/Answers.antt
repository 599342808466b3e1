use Rattle.entry_laws.proofs.Behind.{suits_behind}
use Rattle.entry_laws.proofs.laws.suits_behind.Goals as goal

pub returns : goal.returns
returns c = suits_behind
