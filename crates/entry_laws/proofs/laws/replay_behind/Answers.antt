use Rattle.entry_laws.proofs.Behind.{replay_behind}
use Rattle.entry_laws.proofs.laws.replay_behind.Goals as goal

pub returns : goal.returns
returns c = replay_behind
