use Rattle.prep_steps.proofs.Replacing.{parts_replaced}
use Rattle.prep_steps.proofs.words.around.Goals as goal

pub returns-clause-parts : goal.returns-clause-parts
returns-clause-parts c = parts_replaced c.args.search.now c.args.text.now _ c.requires c.split_once.ensures.cases
