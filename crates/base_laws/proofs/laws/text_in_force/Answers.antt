use Rattle.base_laws.proofs.Texts.{text_in_force}
use Rattle.base_laws.proofs.laws.text_in_force.Goals as goal

pub returns : goal.returns
returns c = text_in_force
