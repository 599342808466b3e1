use Rattle.entry_laws.proofs.Rising.{steps_rise}
use Rattle.entry_laws.proofs.laws.steps_rise.Goals as goal

pub returns : goal.returns
returns c = steps_rise
