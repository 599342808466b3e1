use Rattle.base_laws.proofs.Dated.{fresh_is_dated}
use Rattle.base_laws.proofs.laws.fresh_is_dated.Goals as goal

pub returns : goal.returns
returns c = fresh_is_dated
