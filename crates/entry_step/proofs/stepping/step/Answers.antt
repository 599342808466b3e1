use Rattle.std.proofs.Common.{sym, subst}
use Rattle.trigger_state.specs.Stages.{Stage}
use Rattle.entry_step.specs.Represents.{StepsTo}
use Rattle.entry_step.proofs.Represented.{ok_sub, on_ok, steps_out}
use Rattle.entry_step.proofs.stepping.step.Goals as goal

pub returns-clause-out : goal.returns-clause-out
returns-clause-out g c =
    ok_sub c.advance.result _ _
    (λ made t start log same own h suit.
    (steps_out start c.args.cells.now c.advance.new.cells c.args.entry.now made (subst (λ (s : Stage). StepsTo s c.args.cells.now c.args.entry.now made c.advance.new.cells) (sym same) t) own log h suit).0) c.advance.ensures.made

pub returns-clause-holds : goal.returns-clause-holds
returns-clause-holds g c =
    on_ok c.advance.result _ _
    (λ made t start log same own h suit.
    (steps_out start c.args.cells.now c.advance.new.cells c.args.entry.now made (subst (λ (s : Stage). StepsTo s c.args.cells.now c.args.entry.now made c.advance.new.cells) (sym same) t) own log h suit).1) c.advance.ensures.made
