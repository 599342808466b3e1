use Rattle.trigger_state.proofs.Searches.{search_grows}
use Rattle.trigger_state.proofs.laws.search_grows.Goals as goal

pub returns : goal.returns
returns c = search_grows
