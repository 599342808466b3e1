use Rattle.std.proofs.Common.{◌∙◌}
use Rattle.expr_parser.proofs.SlotViews.{front_text}
use Rattle.expr_parser.proofs.slots.front.Goals as goal

pub returns : goal.returns
returns c = c.starts_with.ensures.value ∙ front_text c.args.a.now c.args.b.now
