use Rattle.std.proofs.Common.{◌∙◌, ap, sym, length}
use Rattle.syncer_gate.specs.Gate.{Gate}
use Rattle.std.proofs.lemmas.List.{length-map}
use Rattle.syncer_gate.specs.Marks.{reopened}
use Rattle.book.proofs.Finishing.{reopened_going}
use Rattle.book.proofs.progress.Progress.reopen.Goals as goal

pub invariant_of-self : goal.invariant_of-self
invariant_of-self g c = (
  reopened_going g.S.StartName.start (record { entries = c.self.inside.entries.items; gate = c.self.inside.claims; cells = c.self.inside.cells; made = c.self.inside.made.items }) c.give_back_all.new.self c.self.invariant.0 c.give_back_all.ensures,
  c.self.invariant.1,
  c.self.invariant.2,
  c.self.invariant.3,
  c.self.invariant.4,
)

pub returns-clause-size : goal.returns-clause-size
returns-clause-size g c = ap (λ (x : Gate). length x.marks) c.give_back_all.ensures ∙ length-map c.self.inside.claims.marks reopened ∙ sym c.self.invariant.0.offered.size
