use Rattle.std.proofs.Common.{◌∙◌, ℕ, ap}
use Rattle.zbx_types.specs.Records.{same_event}
use Rattle.trigger_state.specs.Naming.{noted}
use Rattle.trigger_state.specs.Origins.{place_in}
use Rattle.trigger_state.specs.declared.stage.Place.{Place}
use Rattle.trigger_state.proofs.Origins.{place_more}
use Rattle.trigger_state.proofs.stage.places_of.Goals as goal

pub loop-origin-preserved : goal.loop-origin-preserved
loop-origin-preserved c = λ e.
    let before = place_in c.loop-origin.places e in
    let made : ℕ → Place = λ home. record { home = home; rank = c.origin-item.result.rank } in
    place_more c.args.conf.now c.args.origins.now c.loop-origin.origin-index c.origin-item.result e before (place_in c.note.new.places e) _ c.loop-origin-test.true c.origin-item.is
    (c.in_ok-note.ensures e ∙ ap (λ home. noted before (same_event c.origin-item.result.event e) (made home)) (c.trigger_named.ensures c.args.conf.now c.in_ok-ids.ensures))
    (c.loop-origin.invariant e)
