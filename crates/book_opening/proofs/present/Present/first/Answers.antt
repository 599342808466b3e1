use Rattle.std.proofs.Common.{[], refl, ap, subst}
use Rattle.entry_step.specs.Represents.{Holds}
use Rattle.entry_step.specs.Start.{Start, first_start}
use Rattle.book_opening.proofs.present.Present.first.Goals as goal

pub returns-in-Ok-clause-made : goal.returns-in-Ok-clause-made
returns-in-Ok-clause-made c = (refl, subst (λ (s : Start). Holds s c.in-Ok.cells []) (ap first_start c.conf.ensures) c.in-Ok.ensures.holds)
