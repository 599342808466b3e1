use Rattle.std.proofs.Common.{◌∙◌, ap, sym}
use Rattle.book.specs.Book.{BookView}
use Rattle.book.proofs.Marked.{keep_pulled}
use Rattle.book.proofs.Books.{goes_on, pulled_front, pulled_within}
use Rattle.book.proofs.book.Book.pull_beside.Goals as goal

pub returns-in_err-pull-clause-within : goal.returns-in_err-pull-clause-within
returns-in_err-pull-clause-within g c =
    pulled_within c.pull.new.ring.received c.pull.new.ring.known _ c.pull.new.self.entries c.pull.ensures.received (c.pull.ensures.fifo ∙ c.look_beside-count.ensures.fifo)

pub invariant_of-self-2 : goal.invariant_of-self-2
invariant_of-self-2 g c =
    goes_on _ _ _ _ _ _ _ _ _ _ _ c.self.invariant
    (c.pull.ensures.received ∙ sym c.look_beside.ensures.end.0)
    (pulled_front _ _ _ _ c.self.inside.progress.entries c.pull.new.self.entries _
    (c.self.invariant.received_is ∙ sym c.look_beside-count.ensures.end.0) c.pull.ensures.received c.pull.ensures.fifo c.in_ok-pull.ensures.count)
    (keep_pulled c.self.inside.progress.gate c.pull.new.self.gate _ c.in_ok-pull.ensures.gate)

pub returns-clause-more : goal.returns-clause-more
returns-clause-more g c =
    let same = ap (λ (b : BookView). b.entries) (sym c.self.view_is) in
    pulled_front _ _ _ _ c.args.self.now.entries c.pull.new.self.entries _
    (same ∙ c.self.invariant.received_is ∙ sym c.look_beside-count.ensures.end.0) c.pull.ensures.received c.pull.ensures.fifo c.in_ok-pull.ensures.count
