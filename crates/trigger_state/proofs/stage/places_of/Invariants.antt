use Rattle.std.proofs.Common.{◌≡◌, drop}
use Rattle.std.specs.Option.{option_map, option_or}
use Rattle.zbx_types.specs.declared.entries.EventId.{EventId}
use Rattle.trigger_state.specs.Origins.{place_of, place_in}
use Rattle.trigger_state.specs.Stages.{origin_of}
use Rattle.trigger_state.proofs.stage.places_of.Given as goal

abbrev pub invariant-loop-origin : goal.invariant-loop-origin
invariant-loop-origin l = (e : EventId)
    → option_or (place_in l.places e) (option_map (place_of l.conf) (origin_of (drop l.origin-index l.origins) e)) ≡ option_map (place_of l.conf) (origin_of l.origins e)
