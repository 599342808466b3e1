use Rattle.base_laws.proofs.Texts.{text_over_nothing}
use Rattle.base_laws.proofs.laws.text_over_nothing.Goals as goal

pub returns : goal.returns
returns c = text_over_nothing
