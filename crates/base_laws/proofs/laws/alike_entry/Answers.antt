use Rattle.base_laws.proofs.Alike.{alike_entry}
use Rattle.base_laws.proofs.laws.alike_entry.Goals as goal

pub returns : goal.returns
returns c = alike_entry
