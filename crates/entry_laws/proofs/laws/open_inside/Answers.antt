use Rattle.entry_step.proofs.Replays.{open_inside}
use Rattle.entry_laws.proofs.laws.open_inside.Goals as goal

pub returns : goal.returns
returns c = open_inside
