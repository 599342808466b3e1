use Rattle.book.proofs.Claiming.{given_either}
use Rattle.book.proofs.progress.Progress.give_back.Goals as goal

pub invariant_of-self : goal.invariant_of-self
invariant_of-self g c = (
  given_either g.S.StartName.start c.self.inside.entries.items c.self.inside.claims c.give_back.new.self c.self.inside.cells c.self.inside.made.items c.order.inside.batch c.self.invariant.0 c.give_back.ensures.open c.give_back.ensures.other c.give_back.ensures.step,
  c.put_by.ensures g.S.StartName.start.stage g.S.StartName.cache c.self.invariant.1 c.order.invariant.scratch_free,
  c.self.invariant.2,
  c.self.invariant.3,
  c.self.invariant.4,
)
