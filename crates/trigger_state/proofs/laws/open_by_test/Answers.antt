use Rattle.trigger_state.proofs.Searches.{open_by_test}
use Rattle.trigger_state.proofs.laws.open_by_test.Goals as goal

pub returns : goal.returns
returns c = open_by_test
