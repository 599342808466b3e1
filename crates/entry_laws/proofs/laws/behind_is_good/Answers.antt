use Rattle.entry_laws.proofs.Behind.{behind_is_good}
use Rattle.entry_laws.proofs.laws.behind_is_good.Goals as goal

pub returns : goal.returns
returns c = behind_is_good
