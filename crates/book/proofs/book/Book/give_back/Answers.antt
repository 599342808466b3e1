use Rattle.std.proofs.Common.{◌∙◌, ap}
use Rattle.syncer_gate.specs.declared.marks.Mark.TheVariants.{Pending}
use Rattle.book.specs.Progress.{ProgressView}
use Rattle.book.proofs.Marked.{keep_ending}
use Rattle.book.proofs.Books.{goes_on, same_front}
use Rattle.book.proofs.book.Book.give_back.Goals as goal

pub invariant_of-self : goal.invariant_of-self
invariant_of-self g c =
    goes_on _ _ _ _ _ _ _ _ _ _ _ c.self.invariant
    (c.give_back.ensures.rest.0 ∙ c.self.invariant.received_is)
    (same_front _ _ c.give_back.ensures.rest.0)
    (keep_ending c.self.inside.progress.gate c.give_back.new.self.gate c.args.order.batch Pending c.give_back.ensures.open (λ shut. ap (λ (p : ProgressView). p.gate) (c.give_back.ensures.other shut)))
