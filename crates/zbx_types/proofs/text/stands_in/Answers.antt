use Rattle.zbx_types.proofs.Containing.{contains_is}
use Rattle.zbx_types.proofs.text.stands_in.Goals as goal

pub returns : goal.returns
returns c = contains_is c.contains.result c.args.text.now c.args.part.now c.contains.ensures.cases
