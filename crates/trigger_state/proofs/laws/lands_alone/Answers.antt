use Rattle.trigger_state.proofs.Searches.{lands_alone}
use Rattle.trigger_state.proofs.laws.lands_alone.Goals as goal

pub returns : goal.returns
returns c = lands_alone
