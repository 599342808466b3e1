use Rattle.std.proofs.Common.{◌≡◌, ◌∙◌, ap, refl, subst, false, map, List, Option}
use Rattle.std.specs.Prelude.{IfNone}
use Rattle.std.specs.List.{list_any}
use Rattle.syncer_gate.specs.declared.batch.Batch.{Batch}
use Rattle.book.proofs.Finishing.{one_more}
use Rattle.zbx_types.specs.declared.entries.Numbered.{Numbered}
use Rattle.footprint.specs.Feet.{feet_of}
use Rattle.syncer_gate.specs.declared.marks.Mark.TheVariants.{Applied}
use Rattle.syncer_gate.specs.Marks.{ended, is_open, is_pending}
use Rattle.syncer_gate.specs.Gate.{Gate, claimed}
use Rattle.syncer_gate.specs.Chosen.{chosen}
use Rattle.book.specs.Progress.{ProgressView, IsOneMore}
use Rattle.book.proofs.Claiming.{claimed_some, ready_some, given_either, marks_back, applied_going, worked_at, going_at}
use Rattle.book.proofs.progress.Progress.work_one.Goals as goal

pub work_in-requires-clause-ready : goal.work_in-requires-clause-ready
work_in-requires-clause-ready g c =
    let claim =
    claimed_some g.S.StartName.start c.self.inside.entries.items c.as_slice-all.result.now c.self.inside.claims c.take_batch.new.claims c.in_ok-taken.taken c.in-Some.batch c.self.inside.cells c.self.inside.made.items
    c.as_slice-all.ensures.value c.in-Some.is c.in_ok-taken.ensures.some c.self.invariant.0 in
    ready_some c.self.inside.before g.S.StartName.start.number g.S.StartName.start.stage c.self.inside.entries.items c.as_slice-all.result.now c.in-Some.batch.numbers c.as_slice-numbers.result.now c.self.inside.cells c.self.invariant.2 c.as_slice-all.ensures.value c.as_slice-numbers.ensures claim.ready

pub invariant_of-self-in-Ok : goal.invariant_of-self-in-Ok
invariant_of-self-in-Ok g c =
    let claim =
    claimed_some g.S.StartName.start c.self.inside.entries.items c.as_slice-all.result.now c.self.inside.claims c.take_batch.new.claims c.in_ok-taken.taken c.in-Some.batch c.self.inside.cells c.self.inside.made.items
    c.as_slice-all.ensures.value c.in-Some.is c.in_ok-taken.ensures.some c.self.invariant.0 in (
      applied_going g.S.StartName.start (record { entries = c.self.inside.entries.items; gate = c.take_batch.new.claims; cells = c.self.inside.cells; made = c.self.inside.made.items }) c.settle.new.self c.in-Some.batch c.work_in.new.cells c.work_in.new.made.items claim.going claim.opened (c.settle.ensures.open claim.opened) (c.settle.ensures.step claim.opened c.self.inside.entries.items)
          (worked_at c.self.inside.before g.S.StartName.start.number g.S.StartName.start.stage c.self.inside.entries.items c.as_slice-all.result.now c.in-Some.batch.numbers c.as_slice-numbers.result.now c.self.inside.cells c.work_in.new.cells c.self.inside.made.items c.work_in.new.made.items c.self.invariant.2 c.as_slice-all.ensures.value c.as_slice-numbers.ensures c.in-Ok.ensures.works),
      c.self.invariant.1,
      c.self.invariant.2,
      c.self.invariant.3,
      c.work_in.ensures.cache ∙ c.self.invariant.4,
    )

pub invariant_of-self-in-Err : goal.invariant_of-self-in-Err
invariant_of-self-in-Err g c =
    let claim =
    claimed_some g.S.StartName.start c.self.inside.entries.items c.as_slice-all.result.now c.self.inside.claims c.take_batch.new.claims c.in_ok-taken.taken c.in-Some.batch c.self.inside.cells c.self.inside.made.items
    c.as_slice-all.ensures.value c.in-Some.is c.in_ok-taken.ensures.some c.self.invariant.0 in (
      going_at g.S.StartName.start c.self.inside.entries.items c.give_back.new.self c.self.inside.cells c.work_in.new.cells c.self.inside.made.items c.work_in.new.made.items c.in-Err.ensures.err.0 c.in-Err.ensures.err.1
          (given_either g.S.StartName.start c.self.inside.entries.items c.take_batch.new.claims c.give_back.new.self c.self.inside.cells c.self.inside.made.items c.in-Some.batch claim.going c.give_back.ensures.open c.give_back.ensures.other c.give_back.ensures.step),
      c.self.invariant.1,
      c.self.invariant.2,
      c.self.invariant.3,
      c.work_in.ensures.cache ∙ c.self.invariant.4,
    )

pub returns-in-Ok-clause-one : goal.returns-in-Ok-clause-one
returns-in-Ok-clause-one g c =
    let claim =
    claimed_some g.S.StartName.start c.self.inside.entries.items c.as_slice-all.result.now c.self.inside.claims c.take_batch.new.claims c.in_ok-taken.taken c.in-Some.batch c.self.inside.cells c.self.inside.made.items
    c.as_slice-all.ensures.value c.in-Some.is c.in_ok-taken.ensures.some c.self.invariant.0 in
    λ yes. (
      c.in-Some.batch.id,
      ap (λ (x : Gate). x.marks) (c.settle.ensures.open claim.opened)
          ∙ ap (λ (x : Gate). map (ended c.in-Some.batch.id Applied) x.marks)
          (c.in_ok-taken.ensures.gate ∙ ap (λ (es : List Numbered). claimed c.self.inside.claims (chosen (feet_of g.S.StartName.start.stage.conf) c.self.inside.claims es 4000 1)) c.as_slice-all.ensures.value
          ∙ ap (λ (p : ProgressView). claimed p.gate (chosen (feet_of g.S.StartName.start.stage.conf) p.gate p.entries 4000 1)) c.self.view_is),
    )

pub returns-in-Err-clause-err : goal.returns-in-Err-clause-err
returns-in-Err-clause-err g c =
    let claim =
    claimed_some g.S.StartName.start c.self.inside.entries.items c.as_slice-all.result.now c.self.inside.claims c.take_batch.new.claims c.in_ok-taken.taken c.in-Some.batch c.self.inside.cells c.self.inside.made.items
    c.as_slice-all.ensures.value c.in-Some.is c.in_ok-taken.ensures.some c.self.invariant.0 in (
      marks_back g.S.StartName.start (record { entries = c.self.inside.entries.items; gate = c.self.inside.claims; cells = c.self.inside.cells; made = c.self.inside.made.items }) c.take_batch.new.claims c.give_back.new.self c.in-Some.batch c.in-Some.batch claim refl c.give_back.ensures.open ∙ ap (λ (p : ProgressView). p.gate.marks) c.self.view_is,
      c.in-Err.ensures.err.0 ∙ ap (λ (p : ProgressView). p.cells) c.self.view_is,
      c.in-Err.ensures.err.1 ∙ ap (λ (p : ProgressView). p.made) c.self.view_is,
    )

pub returns-in-Ok-clause-more : goal.returns-in-Ok-clause-more
returns-in-Ok-clause-more g c = λ yes.
    let claim =
    claimed_some g.S.StartName.start c.self.inside.entries.items c.as_slice-all.result.now c.self.inside.claims c.take_batch.new.claims c.in_ok-taken.taken c.in-Some.batch c.self.inside.cells c.self.inside.made.items
    c.as_slice-all.ensures.value c.in-Some.is c.in_ok-taken.ensures.some c.self.invariant.0 in
    subst (λ (p : ProgressView). IsOneMore p.gate.marks c.settle.new.self.marks) c.self.view_is
    (one_more g.S.StartName.start (record { entries = c.self.inside.entries.items; gate = c.self.inside.claims; cells = c.self.inside.cells; made = c.self.inside.made.items }) c.take_batch.new.claims c.settle.new.self c.in_ok-taken.taken c.in-Some.batch claim c.in-Some.is c.in_ok-taken.ensures.few (c.settle.ensures.open claim.opened))

pub returns-in-None-clause-idle : goal.returns-in-None-clause-idle
returns-in-None-clause-idle g c = λ no.
    subst (λ (p : ProgressView). list_any is_open p.gate.marks ≡ false → list_any is_pending p.gate.marks ≡ false) c.self.view_is
    (subst (λ (o : Option Batch). IfNone o (list_any is_open c.self.inside.claims.marks ≡ false → list_any is_pending c.self.inside.claims.marks ≡ false)) c.in-None.is c.in_ok-taken.ensures.idle)
