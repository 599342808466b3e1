use Rattle.book_opening.proofs.present.carried.Goals as goal

pub returns-clause-ok : goal.returns-clause-ok
returns-clause-ok c = c.carry.ensures.ok
