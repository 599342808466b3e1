use Rattle.std.proofs.Common.{length, sym, subst}
use Rattle.book.specs.Progress.{ProgressView}
use Rattle.book.specs.Book.{AreApplied}
use Rattle.book_opening.proofs.Growing.{on_ok}
use Rattle.book.proofs.Books.{frontier_at_end}
use Rattle.book.proofs.book.Book.settle.Goals as goal

pub returns-clause-frontier : goal.returns-clause-frontier
returns-clause-frontier g c =
    let all = subst (λ (p : ProgressView). AreApplied p.gate.marks (length p.entries)) (sym c.flush.ensures.work) c.in_ok-work_all.ensures.all in
    on_ok c.flush.result _ _ (λ at. frontier_at_end _ _ _ all at.0 at.2) c.flush.ensures.frontier
