use Rattle.std.proofs.Common.{◌≡◌, ◌++◌, drop}
use Rattle.std.specs.Prelude.{filter, flat_map}
use Rattle.zbx_types.specs.Records.{same_event}
use Rattle.escalations.specs.Escalations.{recovered_records}
use Rattle.trigger_state.specs.Problems.{event_in}
use Rattle.entry_step.proofs.records.push_sent.Given as goal

abbrev pub invariant-loop-one : goal.invariant-loop-one
invariant-loop-one l =
    l.out ++ flat_map (λ o. recovered_records l.conf o.problem o.steps l.fn.now) (filter (λ o. same_event (event_in o) l.event) (drop l.one-index l.opens))
    ≡ l.fn.out ++ flat_map (λ o. recovered_records l.conf o.problem o.steps l.fn.now) (filter (λ o. same_event (event_in o) l.event) l.opens)
