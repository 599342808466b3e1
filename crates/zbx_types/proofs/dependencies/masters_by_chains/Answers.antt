use Rattle.zbx_types.proofs.MasterLemmas.{masters_by_chains}
use Rattle.zbx_types.proofs.dependencies.masters_by_chains.Goals as goal

pub returns : goal.returns
returns c = masters_by_chains
