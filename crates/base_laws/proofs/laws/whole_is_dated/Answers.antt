use Rattle.base_laws.proofs.Dated.{whole_is_dated}
use Rattle.base_laws.proofs.laws.whole_is_dated.Goals as goal

pub returns : goal.returns
returns c = whole_is_dated
