use Rattle.std.proofs.Common.{◌∙◌}
use Rattle.footprint.specs.Feet.{feet_of}
use Rattle.book.proofs.Marked.{keep_one}
use Rattle.book.proofs.Books.{goes_on, same_front}
use Rattle.book.proofs.book.Book.work_one.Goals as goal

pub invariant_of-self : goal.invariant_of-self
invariant_of-self g c =
    goes_on _ _ _ _ _ _ _ _ _ _ _ c.self.invariant
    (c.work_one.ensures.entries ∙ c.self.invariant.received_is)
    (same_front _ _ c.work_one.ensures.entries)
    (keep_one (feet_of g.S.StartName.start.stage.conf) c.self.inside.progress c.work_one.new.self c.work_one.result c.going.ensures.offered c.work_one.ensures.one c.work_one.ensures.none c.work_one.ensures.err)
