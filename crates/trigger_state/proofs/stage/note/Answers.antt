use Rattle.std.proofs.Common.{rules, ◌∙◌}
use Rattle.zbx_types.specs.Records.{same_event}
use Rattle.trigger_state.specs.Origins.{place_in}
use Rattle.trigger_state.proofs.Firsts.{noted_is, none_under}
use Rattle.trigger_state.proofs.stage.note.Goals as goal

pub returns-in_ok-insert : goal.returns-in_ok-insert
returns-in_ok-insert c = λ e.
    c.in_ok-insert.ensures.updates.0 (e.number, e.trigger)
    ∙ noted_is (place_in c.args.places.now e) (same_event c.args.event e) c.args.place (none_under c.args.places.now c.args.event e (search rules))
