use Rattle.std.proofs.Common.{◌≡◌, IsErrOf, arith, refl, ◌∙◌, ap, rules}
use Rattle.outside.specs.Causes.{Rose}
use Rattle.server_words.specs.declared.status.Status.TheVariants as status
use Rattle.trigger_state.specs.Stages.{Stage}
use Rattle.intake_front.specs.Fronted.{limits_of}
use Rattle.server_run.proofs.Events.{limits_kept, ready_on}
use Rattle.server_run.proofs.Going.{at_more, at_none, served_refused, served_limit, served_end}
use Rattle.server_run.proofs.serving.serve.Goals as goal

pub loop-taken-init : goal.loop-taken-init
loop-taken-init g c = record {
  same = c.new-collection.ensures ∙ ap (λ (s : Stage). s.conf) c.ready.ensures;
  within = omega arith;
  later = omega arith;
  ready = (c.requires.going, refl, refl);
  serving = c.requires;
  ran = λ recovered start d0 w0 count r. at_none g.D.Disk.tells g.S.StartName.base _ _ _ _ _ _ _ _ _ count r;
}

pub loop-taken-preserved : goal.loop-taken-preserved
loop-taken-preserved g c =
    let i = c.loop-taken.invariant in
    let b = c.serve_batch.ensures in
    let e = c.in-Ok.ensures in
    record {
      same = b.same ∙ i.same;
      within = omega (arith, i.within, e.took.1);
      later = omega (arith, i.later, b.wire_later);
      ready = ready_on c.args.front.now.journal c.loop-taken.front.journal c.serve_batch.new.front.journal i.ready e.ready;
      serving = e.serving;
      ran = λ recovered start d0 w0 count r. at_more g.D.Disk.tells g.S.StartName.base (limits_of c.args.front.now.journal 0) _ _ _ _ _ _ _ _ count _ (i.ran recovered start d0 w0 count r) _ _ _ _ (limits_of c.loop-taken.front.journal 0)
          (limits_kept c.args.front.now.journal c.loop-taken.front.journal i.ready) c.loop-taken.front.journal.base i.serving.base_is e.took.0 b.wire_later;
    }

pub returns-in-Err-clause-served : goal.returns-in-Err-clause-served
returns-in-Err-clause-served g c =
    let i = c.loop-taken.invariant in
    served_refused g.D.Disk.tells g.S.StartName.base _ _ _ _ _ _ _ _ _ i.ran i.later i.ready i.within _ i.serving.idle (search rules)

pub returns-in-Err-serve_batch-clause-served : goal.returns-in-Err-serve_batch-clause-served
returns-in-Err-serve_batch-clause-served g c =
    let i = c.loop-taken.invariant in
    let b = c.serve_batch.ensures in
    let e = c.in-Err-serve_batch.ensures in
    let fault : c.in-Err-serve_batch.status ≡ status.WireFault → Rose (g.W.Wire.tells c.loop-taken.wire).faults (g.W.Wire.tells c.serve_batch.new.wire).faults = λ is. b.wire (let of : IsErrOf c.serve_batch.result status.WireFault = search rules in of) in
    served_end g.D.Disk.tells g.S.StartName.base _ _ _ c.args.front.now c.loop-taken.front _ _ _ _ i.ran i.later i.ready i.within c.serve_batch.new.front _ _ _ c.in-Err-serve_batch.status i.serving.base_is e.took (omega (arith, i.within)) b.idle e.sent e.cause (λ is. fault is) b.wire_later

pub returns-clause-served : goal.returns-clause-served
returns-clause-served g c =
    let i = c.loop-taken.invariant in
    served_limit g.D.Disk.tells g.S.StartName.base _ _ _ _ _ _ _ _ _ i.ran i.later i.ready i.within _ i.serving.idle i.serving.sent (omega (arith, i.within))
