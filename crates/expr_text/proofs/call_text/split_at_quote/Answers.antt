use Rattle.expr_text.proofs.Escapes.{parts}
use Rattle.expr_text.proofs.call_text.split_at_quote.Goals as goal

pub returns-clause-parts : goal.returns-clause-parts
returns-clause-parts c = parts c.args.text.now c.split_once.result c.split_once.ensures.cases
