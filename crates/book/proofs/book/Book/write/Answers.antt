use Rattle.book.proofs.Books.{written}
use Rattle.book.proofs.book.Book.write.Goals as goal

pub invariant_of-self : goal.invariant_of-self
invariant_of-self g c = written _ _ _ _ _ _ _ _ _ _ c.self.invariant c.write_out.ensures.written c.write_out.ensures.cause.later

pub invariant_of-self-2 : goal.invariant_of-self-2
invariant_of-self-2 g c = written _ _ _ _ _ _ _ _ _ _ c.self.invariant c.write_out.ensures.written c.write_out.ensures.cause.later
