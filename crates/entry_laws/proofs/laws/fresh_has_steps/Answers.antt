use Rattle.entry_laws.proofs.Rising.{fresh_has_steps}
use Rattle.entry_laws.proofs.laws.fresh_has_steps.Goals as goal

pub returns : goal.returns
returns c = fresh_has_steps
