use Rattle.std.proofs.Common.{sym, ◌∙◌}
use Rattle.book_opening.proofs.Beginning.{first_none, first_some}
use Rattle.base_laws.proofs.Grounds.{some_text}
use Rattle.book_opening.proofs.present.Present.begin.Goals as goal

pub returns-then-is_empty-clause-first : goal.returns-then-is_empty-clause-first
returns-then-is_empty-clause-first c = first_none c.args.base.now.text c.args.base.now c.args.ready c.first.result (sym c.is_empty.ensures ∙ c.if-is_empty.true) c.first.ensures.made

pub restored-requires-clause-fits : goal.restored-requires-clause-fits
restored-requires-clause-fits c = c.requires.fits (some_text c.args.base.now.text (sym c.is_empty.ensures ∙ c.if-is_empty.false))

pub returns-clause-first : goal.returns-clause-first
returns-clause-first c = first_some c.args.base.now.text c.args.base.now c.args.ready c.restored.result (sym c.is_empty.ensures ∙ c.if-is_empty.false) c.restored.ensures.ready c.restored.ensures.cells
