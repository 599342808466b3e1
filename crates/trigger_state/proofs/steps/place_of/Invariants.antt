use Rattle.std.proofs.Common.{◌≡◌, drop}
use Rattle.std.specs.List.{position_from}
use Rattle.zbx_types.specs.Records.{same_event}
use Rattle.trigger_state.specs.Problems.{event_in}
use Rattle.trigger_state.proofs.steps.place_of.Given as goal

abbrev pub invariant-loop-place : goal.invariant-loop-place
invariant-loop-place l = position_from (λ o. same_event (event_in o) l.event) l.place (drop l.place l.opens) ≡ position_from (λ o. same_event (event_in o) l.event) 0 l.opens
