use Rattle.std.proofs.Common.{◌∙◌, sym}
use Rattle.zbx_types.proofs.MasterLemmas.{then_masters, no_masters, empty_is}
use Rattle.zbx_types.proofs.dependencies.masters.Goals as goal

pub returns-then-is_empty : goal.returns-then-is_empty
returns-then-is_empty c = c.new.ensures ∙ sym (no_masters _ _ (sym c.depends_of.ensures ∙ empty_is _ (sym c.is_empty.ensures ∙ c.if-is_empty.true)))

pub returns : goal.returns
returns c = then_masters _ _ _ _ _ c.rising.ensures.ordered c.in_ok-walk.ensures.keys c.in_ok-walk.ensures.finds c.rising.ensures.made
