use Rattle.base_laws.proofs.WholeBases.{told_by_base}
use Rattle.base_laws.proofs.laws.told_by_base.Goals as goal

pub returns : goal.returns
returns c = told_by_base
