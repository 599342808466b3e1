use Rattle.entry_step.proofs.Replays.{open_by_names}
use Rattle.entry_laws.proofs.laws.open_by_names.Goals as goal

pub returns : goal.returns
returns c = open_by_names
