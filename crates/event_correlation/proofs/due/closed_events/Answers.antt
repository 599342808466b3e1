use Rattle.std.proofs.Common.{◌∙◌}
use Rattle.event_correlation.proofs.DueLemmas.{step_kept}
use Rattle.event_correlation.proofs.due.closed_events.Goals as goal

pub loop-place-preserved : goal.loop-place-preserved
loop-place-preserved c =
    step_kept _ _ c.loop-place.place c.args.rules.now _ c.loop-place.closed c.push_events_at.new.closed c.as_slice.result.now c.loop-place-test.true
    (c.as_slice.ensures.value ∙ c.in_ok-due.ensures) c.in_ok-push_events_at.ensures c.loop-place.invariant
