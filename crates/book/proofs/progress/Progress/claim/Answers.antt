use Rattle.std.proofs.Common.{◌∙◌, ap, refl}
use Rattle.book.specs.Progress.{ProgressView}
use Rattle.book.proofs.Claiming.{claimed_some, ready_some, given_either, marks_back}
use Rattle.book.proofs.progress.Progress.claim.Goals as goal

pub order_of-requires-clause-ready : goal.order_of-requires-clause-ready
order_of-requires-clause-ready g c =
    let claim =
    claimed_some g.S.StartName.start c.self.inside.entries.items c.as_slice-all.result.now c.self.inside.claims c.take_batch.new.claims c.in_ok-taken.taken c.in-Some.batch c.self.inside.cells c.self.inside.made.items
    c.as_slice-all.ensures.value c.in-Some.is c.in_ok-taken.ensures.some c.self.invariant.0 in
    ready_some c.self.inside.before g.S.StartName.start.number g.S.StartName.start.stage c.self.inside.entries.items c.as_slice-all.result.now c.in-Some.batch.numbers c.in-Some.batch.numbers c.self.inside.cells c.self.invariant.2 c.as_slice-all.ensures.value refl claim.ready

pub invariant_of-self-in-Ok : goal.invariant_of-self-in-Ok
invariant_of-self-in-Ok g c =
    let claim =
    claimed_some g.S.StartName.start c.self.inside.entries.items c.as_slice-all.result.now c.self.inside.claims c.take_batch.new.claims c.in_ok-taken.taken c.in-Some.batch c.self.inside.cells c.self.inside.made.items
    c.as_slice-all.ensures.value c.in-Some.is c.in_ok-taken.ensures.some c.self.invariant.0 in
    (claim.going, c.order_of.ensures.spare, c.self.invariant.2, c.self.invariant.3, c.self.invariant.4)

pub invariant_of-self-in-Err : goal.invariant_of-self-in-Err
invariant_of-self-in-Err g c =
    let claim =
    claimed_some g.S.StartName.start c.self.inside.entries.items c.as_slice-all.result.now c.self.inside.claims c.take_batch.new.claims c.in_ok-taken.taken c.in-Some.batch c.self.inside.cells c.self.inside.made.items
    c.as_slice-all.ensures.value c.in-Some.is c.in_ok-taken.ensures.some c.self.invariant.0 in (
      given_either g.S.StartName.start c.self.inside.entries.items c.take_batch.new.claims c.give_back.new.self c.self.inside.cells c.self.inside.made.items c.in-Err.batch claim.going c.give_back.ensures.open c.give_back.ensures.other c.give_back.ensures.step,
      c.order_of.ensures.spare,
      c.self.invariant.2,
      c.self.invariant.3,
      c.self.invariant.4,
    )

pub returns-in-Err-clause-err : goal.returns-in-Err-clause-err
returns-in-Err-clause-err g c =
    let claim =
    claimed_some g.S.StartName.start c.self.inside.entries.items c.as_slice-all.result.now c.self.inside.claims c.take_batch.new.claims c.in_ok-taken.taken c.in-Some.batch c.self.inside.cells c.self.inside.made.items
    c.as_slice-all.ensures.value c.in-Some.is c.in_ok-taken.ensures.some c.self.invariant.0 in
    marks_back g.S.StartName.start (record { entries = c.self.inside.entries.items; gate = c.self.inside.claims; cells = c.self.inside.cells; made = c.self.inside.made.items }) c.take_batch.new.claims c.give_back.new.self c.in-Some.batch c.in-Err.batch claim c.in-Err.ensures.back c.give_back.ensures.open
    ∙ ap (λ (p : ProgressView). p.gate.marks) c.self.view_is
