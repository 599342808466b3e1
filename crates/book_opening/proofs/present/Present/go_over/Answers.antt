use Rattle.book_opening.proofs.present.Present.go_over.Goals as goal

pub returns-clause-ok : goal.returns-clause-ok
returns-clause-ok c = c.exchanged.ensures.ok
