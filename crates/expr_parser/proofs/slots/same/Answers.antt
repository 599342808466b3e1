use Rattle.std.proofs.Common.{◌∙◌}
use Rattle.expr_parser.proofs.SlotViews.{same_text}
use Rattle.expr_parser.proofs.slots.same.Goals as goal

pub returns : goal.returns
returns c = c.eq.ensures ∙ same_text c.args.a.now c.args.b.now
