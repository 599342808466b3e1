use Rattle.std.proofs.Common.{◌∙◌, length, ap, sym, subst}
use Rattle.std.specs.Prelude.{All}
use Rattle.zbx_types.specs.declared.entries.Numbered.{Numbered}
use Rattle.entry_step.specs.Parts.{IsSame, WorksOut}
use Rattle.syncer_gate.proofs.Ended.{not_both}
use Rattle.book.specs.Progress.{OrderView, DoneView, AreHere, IsAmong, AreOutputs, entries_with}
use Rattle.book.proofs.Batches.{within_ones}
use Rattle.book.proofs.Claiming.{here_with, with_here, fresh_outputs}
use Rattle.book.proofs.inputs.outputs_of.Goals as goal

pub is_usable-requires-clause-within : goal.is_usable-requires-clause-within
is_usable-requires-clause-within g c =
    let numbers = ap (λ (o : OrderView). o.batch.numbers) c.order.view_is ∙ ap (λ (d : DoneView). d.order.batch.numbers) c.done.view_is in
    subst (All (λ (e : Numbered). IsAmong c.args.all.before (length c.args.all.entries.now) e.number)) (sym c.as_slice.ensures)
    (within_ones c.args.all.before c.args.all.entries.now c.order.inside.entries c.args.done.order.batch.numbers (c.order.invariant.numbers ∙ numbers) c.requires.ready.within)

pub returns-then-is_usable-clause-entries : goal.returns-then-is_usable-clause-entries
returns-then-is_usable-clause-entries g c =
    let numbers = ap (λ (o : OrderView). o.batch.numbers) c.order.view_is ∙ ap (λ (d : DoneView). d.order.batch.numbers) c.done.view_is in
    let usable = c.is_usable.ensures.0 c.if-is_usable.true in
    sym (here_with c.args.all.before g.S.StartName.start.stage c.args.cells.now c.args.all.entries.now c.order.inside.entries c.args.done.order.batch.numbers c.requires.ready (c.order.invariant.numbers ∙ numbers) (subst (AreHere c.args.all.before c.args.all.entries.now) c.as_slice.ensures usable.0))

pub returns-then-is_usable-clause-made : goal.returns-then-is_usable-clause-made
returns-then-is_usable-clause-made g c =
    let numbers = ap (λ (o : OrderView). o.batch.numbers) c.order.view_is ∙ ap (λ (d : DoneView). d.order.batch.numbers) c.done.view_is in
    let usable = c.is_usable.ensures.0 c.if-is_usable.true in
    fresh_outputs c.args.all.before g.S.StartName.start.stage c.args.cells.now c.args.all.entries.now c.order.inside.entries c.args.done.order.batch.numbers c.order.inside.part c.done.inside.part c.done.inside.made c.requires.ready
    (here_with c.args.all.before g.S.StartName.start.stage c.args.cells.now c.args.all.entries.now c.order.inside.entries c.args.done.order.batch.numbers c.requires.ready (c.order.invariant.numbers ∙ numbers) (subst (AreHere c.args.all.before c.args.all.entries.now) c.as_slice.ensures usable.0))
    c.order.invariant.workable usable.1
    (subst (λ (o : OrderView). WorksOut g.S.StartName.start.stage o.entries o.part c.done.inside.part c.done.inside.made) (sym c.order.view_is) c.done.invariant.0)

pub returns-in-Ok-clause-made : goal.returns-in-Ok-clause-made
returns-in-Ok-clause-made g c =
    let numbers = ap (λ (o : OrderView). o.batch.numbers) c.order.view_is ∙ ap (λ (d : DoneView). d.order.batch.numbers) c.done.view_is in
    subst (λ ns. AreOutputs g.S.StartName.start.stage c.args.cells.now (entries_with ns c.args.all.entries.now) c.in-Ok.again.part c.in-Ok.again.made) (c.as_slice-numbers.ensures ∙ numbers) c.in-Ok.ensures.made

pub returns-in-Ok-clause-uncounted : goal.returns-in-Ok-clause-uncounted
returns-in-Ok-clause-uncounted g c = λ here same.
    let numbers = ap (λ (o : OrderView). o.batch.numbers) c.order.view_is ∙ ap (λ (d : DoneView). d.order.batch.numbers) c.done.view_is in
    let entries = ap (λ (o : OrderView). o.entries) c.order.view_is ∙ ap (λ (d : DoneView). d.order.entries) c.done.view_is in
    let part = ap (λ (o : OrderView). o.part) c.order.view_is ∙ ap (λ (d : DoneView). d.order.part) c.done.view_is in
    absurd (not_both c.is_usable.result (c.is_usable.ensures.1 (
      subst (AreHere c.args.all.before c.args.all.entries.now) (sym c.as_slice.ensures) (with_here c.args.all.before g.S.StartName.start.stage c.args.cells.now c.args.all.entries.now c.order.inside.entries c.args.done.order.batch.numbers c.requires.ready (c.order.invariant.numbers ∙ numbers) (here ∙ sym entries)),
      subst (IsSame c.args.cells.now) (sym part) same,
    )) c.if-is_usable.false)

pub returns-in-Err-clause-uncounted : goal.returns-in-Err-clause-uncounted
returns-in-Err-clause-uncounted g c = λ here same.
    let numbers = ap (λ (o : OrderView). o.batch.numbers) c.order.view_is ∙ ap (λ (d : DoneView). d.order.batch.numbers) c.done.view_is in
    let entries = ap (λ (o : OrderView). o.entries) c.order.view_is ∙ ap (λ (d : DoneView). d.order.entries) c.done.view_is in
    let part = ap (λ (o : OrderView). o.part) c.order.view_is ∙ ap (λ (d : DoneView). d.order.part) c.done.view_is in
    absurd (not_both c.is_usable.result (c.is_usable.ensures.1 (
      subst (AreHere c.args.all.before c.args.all.entries.now) (sym c.as_slice.ensures) (with_here c.args.all.before g.S.StartName.start.stage c.args.cells.now c.args.all.entries.now c.order.inside.entries c.args.done.order.batch.numbers c.requires.ready (c.order.invariant.numbers ∙ numbers) (here ∙ sym entries)),
      subst (IsSame c.args.cells.now) (sym part) same,
    )) c.if-is_usable.false)
