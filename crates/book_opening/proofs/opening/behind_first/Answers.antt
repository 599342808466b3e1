use Rattle.std.proofs.Common.{sym, ◌∙◌}
use Rattle.book_opening.proofs.Beginning.{replayed_rest, replayed_all}
use Rattle.base_laws.proofs.Grounds.{empty_text, some_text}
use Rattle.book_opening.proofs.opening.behind_first.Goals as goal

pub rest_of-requires : goal.rest_of-requires
rest_of-requires c = c.requires (empty_text c.args.base.now.text (sym c.is_empty.ensures ∙ c.if-is_empty.true))

pub returns-then-is_empty : goal.returns-then-is_empty
returns-then-is_empty c = c.rest_of.ensures ∙ replayed_rest c.args.base.now.text c.args.kept.now (empty_text c.args.base.now.text (sym c.is_empty.ensures ∙ c.if-is_empty.true))

pub returns-else-is_empty : goal.returns-else-is_empty
returns-else-is_empty c = replayed_all c.args.base.now.text c.args.kept.now (some_text c.args.base.now.text (sym c.is_empty.ensures ∙ c.if-is_empty.false))
