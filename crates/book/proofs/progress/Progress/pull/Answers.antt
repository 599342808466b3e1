use Rattle.std.proofs.Common.{◌++◌, ◌+◌, ◌∙◌, [], length, take, get_or, length-take-le, ap}
use Rattle.book.proofs.Going.{pulled_going}
use Rattle.book.proofs.progress.Progress.pull.Goals as goal

pub invariant_of-self-2 : goal.invariant_of-self-2
invariant_of-self-2 g c = (
  pulled_going g.S.StartName.start c.self.inside.entries.items (take c.args.count c.args.ring.now.known) c.pull_known.new.entries.items c.self.inside.claims c.offer.new.self c.args.count c.self.inside.cells c.self.inside.made.items c.pull_known.new.made.items
      c.self.invariant.0
      (c.pull_known.ensures.more ∙ ap (λ xs. xs ++ take c.args.count c.args.ring.now.known) c.reserve.ensures.items)
      c.pull_known.ensures.whole c.in_ok-offer.ensures.ok c.in_ok-offer.ensures.step
      (c.pull_known.ensures.size ∙ ap (λ xs. length xs + c.args.count) c.reserve-2.ensures.items)
      (λ n. c.pull_known.ensures.made n ∙ ap (λ xs. get_or xs n []) c.reserve-2.ensures.items)
      (length-take-le c.args.count c.args.ring.now.known c.requires.known),
  c.self.invariant.1,
  c.self.invariant.2,
  c.self.invariant.3,
  c.self.invariant.4,
)
