use Rattle.std.proofs.Common.{◌∙◌, length, ap, sym, subst, refl}
use Rattle.syncer_gate.specs.Gate.{IsOpenBatch}
use Rattle.syncer_gate.specs.declared.batch.Batch.{Batch}
use Rattle.book.specs.Progress.{AreOutputs, IsWorkedIn, entries_with}
use Rattle.book.proofs.Claiming.{open_ready, ready_some, put_within, outputs_length, applied_going, worked_before}
use Rattle.book.proofs.progress.Progress.apply.Goals as goal

pub outputs_of-requires-clause-ready : goal.outputs_of-requires-clause-ready
outputs_of-requires-clause-ready g c =
    let opened = c.is_open_here.ensures.0 c.if-not-is_open_here.false in
    let ready = open_ready g.S.StartName.start (record { entries = c.self.inside.entries.items; gate = c.self.inside.claims; cells = c.self.inside.cells; made = c.self.inside.made.items }) c.self.invariant.0 c.args.done.order.batch opened in
    ready_some c.self.inside.before g.S.StartName.start.number g.S.StartName.start.stage c.self.inside.entries.items c.as_slice.result.now c.args.done.order.batch.numbers c.args.done.order.batch.numbers c.self.inside.cells c.self.invariant.2 c.as_slice.ensures.value refl ready

pub put_in-requires-clause-within : goal.put_in-requires-clause-within
put_in-requires-clause-within g c =
    let opened = c.is_open_here.ensures.0 c.if-not-is_open_here.false in
    let ready = open_ready g.S.StartName.start (record { entries = c.self.inside.entries.items; gate = c.self.inside.claims; cells = c.self.inside.cells; made = c.self.inside.made.items }) c.self.invariant.0 c.args.done.order.batch opened in
    let es = c.as_slice-2.ensures ∙ c.in_ok-outputs.ensures.entries ∙ ap (entries_with c.args.done.order.batch.numbers) c.as_slice.ensures.value in
    let outputs = subst (λ xs. AreOutputs g.S.StartName.start.stage c.self.inside.cells (entries_with c.args.done.order.batch.numbers xs) c.in_ok-outputs.outputs.part c.in_ok-outputs.outputs.made) c.as_slice.ensures.value c.in_ok-outputs.ensures.made in
    put_within c.self.inside.before g.S.StartName.start.number g.S.StartName.start.stage c.self.inside.cells c.self.inside.entries.items c.as_slice-2.result.now c.args.done.order.batch.numbers c.self.inside.made.items c.self.invariant.2 ready es c.self.invariant.0.size

pub put_in-requires-clause-one : goal.put_in-requires-clause-one
put_in-requires-clause-one g c =
    let opened = c.is_open_here.ensures.0 c.if-not-is_open_here.false in
    let ready = open_ready g.S.StartName.start (record { entries = c.self.inside.entries.items; gate = c.self.inside.claims; cells = c.self.inside.cells; made = c.self.inside.made.items }) c.self.invariant.0 c.args.done.order.batch opened in
    let es = c.as_slice-2.ensures ∙ c.in_ok-outputs.ensures.entries ∙ ap (entries_with c.args.done.order.batch.numbers) c.as_slice.ensures.value in
    let outputs = subst (λ xs. AreOutputs g.S.StartName.start.stage c.self.inside.cells (entries_with c.args.done.order.batch.numbers xs) c.in_ok-outputs.outputs.part c.in_ok-outputs.outputs.made) c.as_slice.ensures.value c.in_ok-outputs.ensures.made in
    outputs_length g.S.StartName.start.number g.S.StartName.start.stage c.self.inside.cells c.self.inside.entries.items c.args.done.order.batch.numbers c.in_ok-outputs.outputs.part c.in_ok-outputs.outputs.made ready outputs ∙ sym (ap length es)

pub invariant_of-self : goal.invariant_of-self
invariant_of-self g c =
    let opened = c.is_open_here.ensures.0 c.if-not-is_open_here.false in
    let ready = open_ready g.S.StartName.start (record { entries = c.self.inside.entries.items; gate = c.self.inside.claims; cells = c.self.inside.cells; made = c.self.inside.made.items }) c.self.invariant.0 c.args.done.order.batch opened in
    let es = c.as_slice-2.ensures ∙ c.in_ok-outputs.ensures.entries ∙ ap (entries_with c.args.done.order.batch.numbers) c.as_slice.ensures.value in
    let outputs = subst (λ xs. AreOutputs g.S.StartName.start.stage c.self.inside.cells (entries_with c.args.done.order.batch.numbers xs) c.in_ok-outputs.outputs.part c.in_ok-outputs.outputs.made) c.as_slice.ensures.value c.in_ok-outputs.ensures.made in
    let same = c.in_ok-outputs.ensures.batch in
    let own = subst (IsOpenBatch c.self.inside.claims) (sym same) opened in (
      applied_going g.S.StartName.start (record { entries = c.self.inside.entries.items; gate = c.self.inside.claims; cells = c.self.inside.cells; made = c.self.inside.made.items }) c.settle.new.self c.in_ok-outputs.outputs.batch c.put_in.new.cells c.put_in.new.made.items c.self.invariant.0 own (c.settle.ensures.open own) (c.settle.ensures.step own c.self.inside.entries.items)
          (subst (λ xs. IsWorkedIn g.S.StartName.start.number g.S.StartName.start.stage xs c.self.inside.cells c.self.inside.made.items c.put_in.new.cells c.put_in.new.made.items) (es ∙ ap (λ (b : Batch). entries_with b.numbers c.self.inside.entries.items) (sym same))
          (worked_before c.self.inside.before g.S.StartName.start.number g.S.StartName.start.stage _ _ _ _ _ c.self.invariant.2 (c.put_in.ensures.works g.S.StartName.start.stage (subst (λ xs. AreOutputs g.S.StartName.start.stage c.self.inside.cells xs c.in_ok-outputs.outputs.part c.in_ok-outputs.outputs.made) (sym es) outputs)))),
      c.put_by.ensures g.S.StartName.start.stage g.S.StartName.cache c.self.invariant.1 c.in_ok-outputs.ensures.scratch,
      c.self.invariant.2,
      c.self.invariant.3,
      c.put_in.ensures.cache ∙ c.self.invariant.4,
    )

pub put_in-requires-clause-cache : goal.put_in-requires-clause-cache
put_in-requires-clause-cache g c = c.in_ok-outputs.ensures.cache ∙ sym c.self.invariant.4
