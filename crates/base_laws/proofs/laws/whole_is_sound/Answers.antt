use Rattle.base_laws.proofs.WholeBases.{whole_is_sound}
use Rattle.base_laws.proofs.laws.whole_is_sound.Goals as goal

pub returns : goal.returns
returns c = whole_is_sound
