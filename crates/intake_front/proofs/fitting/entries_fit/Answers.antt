use Rattle.std.proofs.Common.{sym, refl, arith, true≢false}
use Rattle.intake_front.proofs.Misfits.{step_fits, step_room, step_misfits}
use Rattle.intake_front.proofs.fitting.entries_fit.Goals as goal

pub returns-then-not-entry_fits : goal.returns-then-not-entry_fits
returns-then-not-entry_fits c flat start before log rest stood are =
    let e = c.entry-item.result in
    let judged = c.loop-entry.judged in
    let so_far = c.loop-entry.invariant flat start before log rest stood are in
    step_misfits flat start c.args.confs.now rest before log c.args.entries.now c.loop-entry.entry-index e judged are c.loop-entry-test.true c.entry-item.is so_far
    (λ after. absurd (true≢false (sym (c.if-not-entry_fits.ensures.1 after))))

pub loop-entry-preserved : goal.loop-entry-preserved
loop-entry-preserved c flat start before log rest stood are =
    let e = c.entry-item.result in
    let i = c.loop-entry.entry-index in
    let es = c.args.entries.now in
    let judged = c.loop-entry.judged in
    let so_far = c.loop-entry.invariant flat start before log rest stood are in
    let room = step_room flat start c.args.confs.now rest before log es i e judged are c.loop-entry-test.true c.entry-item.is so_far in
    step_fits flat start c.args.confs.now rest before log es i e judged are c.loop-entry-test.true c.entry-item.is so_far c.judged_with.result
    (c.if-not-entry_fits.ensures.0 refl) c.judged_with.ensures.last (c.judged_with.ensures.configs (omega (arith, room)))
