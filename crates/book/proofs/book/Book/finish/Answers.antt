use Rattle.book.proofs.book.Book.finish.Goals as goal

pub returns-clause-front : goal.returns-clause-front
returns-clause-front g c = c.into_outbox.ensures.front c.args.head.sent c.settle.ensures.within
