use Rattle.std.proofs.Common.{◌≤◌, subst}
use Rattle.book.specs.Book.{BookView}
use Rattle.book.proofs.Books.{frontier_above}
use Rattle.book.proofs.book.Book.applied.Goals as goal

pub returns-clause-within : goal.returns-clause-within
returns-clause-within g c =
    subst (λ (b : BookView). b.frontier ≤ c.applied.result) c.self.view_is (frontier_above _ _ _ _ c.self.invariant.applied c.self.invariant.within c.applied.ensures.next)
