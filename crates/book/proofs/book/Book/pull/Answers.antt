use Rattle.std.proofs.Common.{◌∙◌, ap, sym}
use Rattle.book.specs.Book.{BookView}
use Rattle.book.proofs.Marked.{keep_pulled}
use Rattle.book.proofs.Books.{goes_on, pulled_front}
use Rattle.book.proofs.book.Book.pull.Goals as goal

pub invariant_of-self-2 : goal.invariant_of-self-2
invariant_of-self-2 g c =
    goes_on _ _ _ _ _ _ _ _ _ _ _ c.self.invariant c.pull.ensures.received
    (pulled_front _ _ _ _ c.self.inside.progress.entries c.pull.new.self.entries _
    (c.self.invariant.received_is ∙ sym c.look-count.ensures.same.0) c.pull.ensures.received c.pull.ensures.fifo c.in_ok-pull.ensures.count)
    (keep_pulled c.self.inside.progress.gate c.pull.new.self.gate _ c.in_ok-pull.ensures.gate)

pub returns-clause-more : goal.returns-clause-more
returns-clause-more g c =
    let same = ap (λ (b : BookView). b.entries) (sym c.self.view_is) in
    pulled_front _ _ _ _ c.args.self.now.entries c.pull.new.self.entries _
    (same ∙ c.self.invariant.received_is ∙ sym c.look-count.ensures.same.0) c.pull.ensures.received c.pull.ensures.fifo c.in_ok-pull.ensures.count
