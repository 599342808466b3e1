use Rattle.base_laws.proofs.Sound.{fresh_is_sound}
use Rattle.base_laws.proofs.laws.fresh_is_sound.Goals as goal

pub returns : goal.returns
returns c = fresh_is_sound
