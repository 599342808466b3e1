use Rattle.std.proofs.Common.{◌∙◌}
use Rattle.footprint.specs.Feet.{feet_of}
use Rattle.book.proofs.Marked.{keep_claim}
use Rattle.book.proofs.Books.{goes_on, same_front}
use Rattle.book.proofs.book.Book.claim.Goals as goal

pub invariant_of-self : goal.invariant_of-self
invariant_of-self g c =
    goes_on _ _ _ _ _ _ _ _ _ _ _ c.self.invariant
    (c.claim.ensures.rest.0 ∙ c.self.invariant.received_is)
    (same_front _ _ c.claim.ensures.rest.0)
    (keep_claim (feet_of g.S.StartName.start.stage.conf) c.self.inside.progress c.claim.new.self.gate c.args.looks c.args.limit c.claim.result c.going.ensures.offered c.claim.ensures.gate c.claim.ensures.err)
