use Rattle.std.proofs.Common.{◌++◌, ◌+◌, ◌∷◌, [], subst, sym}
use Rattle.book_examples.specs.Ticks.{HasTicks}
use Rattle.book_examples.proofs.Ticking.{more_ticks}
use Rattle.book_examples.proofs.rings.Ticks.push.Goals as goal

pub push-requires : goal.push-requires
push-requires g c = (more_ticks g.S.StartName.start c.self.inside.head.sent c.self.inside.next c.tick.result c.tick.ensures c.self.invariant).whole

pub invariant_of-self : goal.invariant_of-self
invariant_of-self g c =
    subst (λ s. HasTicks g.S.StartName.start s (c.self.inside.next + 1)) (sym c.in-Ok.ensures.sent) (more_ticks g.S.StartName.start c.self.inside.head.sent c.self.inside.next c.tick.result c.tick.ensures c.self.invariant)
