use Rattle.base_laws.proofs.Sound.{behind_is_sound}
use Rattle.base_laws.proofs.laws.behind_is_sound.Goals as goal

pub returns : goal.returns
returns c = behind_is_sound
