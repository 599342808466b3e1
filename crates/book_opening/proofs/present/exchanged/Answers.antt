use Rattle.std.proofs.Common.{sym, subst}
use Rattle.trigger_state.specs.Stages.{Stage}
use Rattle.entry_step.specs.InForce.{CarriesOver}
use Rattle.book_opening.proofs.present.exchanged.Goals as goal

pub returns-in-Ok-clause-ok : goal.returns-in-Ok-clause-ok
returns-in-Ok-clause-ok c =
    subst (λ (stage : Stage). CarriesOver c.args.ready.now c.args.next.conf c.args.number c.args.at c.args.cells.now c.in-Ok.made stage c.carried.new.cells)
    (sym c.change.ensures) c.in-Ok.ensures.ok
