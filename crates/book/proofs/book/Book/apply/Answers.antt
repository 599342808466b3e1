use Rattle.std.proofs.Common.{◌∙◌}
use Rattle.syncer_gate.specs.declared.marks.Mark.TheVariants.{Applied}
use Rattle.book.proofs.Marked.{keep_done}
use Rattle.book.proofs.Books.{goes_on, same_front}
use Rattle.book.proofs.book.Book.apply.Goals as goal

pub invariant_of-self : goal.invariant_of-self
invariant_of-self g c =
    goes_on _ _ _ _ _ _ _ _ _ _ _ c.self.invariant
    (c.apply.ensures.entries ∙ c.self.invariant.received_is)
    (same_front _ _ c.apply.ensures.entries)
    (keep_done c.self.inside.progress c.apply.new.self c.args.done.order.batch Applied c.apply.result c.apply.ensures.open c.apply.ensures.other c.apply.ensures.err)
