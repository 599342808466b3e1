use Rattle.std.proofs.Common.{◌≡◌, ◌∙◌, sym, ap, subst, List, Some, None}
use Rattle.std.specs.List.{position_from}
use Rattle.zbx_types.specs.Records.{same_event}
use Rattle.zbx_types.specs.declared.entries.EventId.{EventId}
use Rattle.zbx_types.specs.declared.entries.Rec.{Rec}
use Rattle.trigger_state.specs.Problems.{event_in, with_step}
use Rattle.trigger_state.specs.declared.problems.Open.{Open}
use Rattle.trigger_state.proofs.StepLemmas.{step_none, step_done}
use Rattle.trigger_state.proofs.steps.+step_all.Goals as goal

pub returns-in_default-clause-ok : goal.returns-in_default-clause-ok
returns-in_default-clause-ok t c =
    let first = subst (λ (e : EventId). position_from (λ o. same_event (event_in o) e) 0 c.args.opens.now ≡ None) c.event.ensures (sym c.in_default.ensures.first) in
    sym (step_none c.args.step.now c.args.opens.now 0 first)

pub returns-clause-ok : goal.returns-clause-ok
returns-clause-ok t c =
    let first = subst (λ (e : EventId). position_from (λ o. same_event (event_in o) e) 0 c.args.opens.now ≡ Some c.in-Some.place) c.event.ensures (sym c.in-Some.ensures.first) in
    let made = c.in_ok-steps.ensures ∙ ap (λ (ss : List Rec). with_step ss c.args.step.now) (c.as_slice.ensures ∙ sym (ap (λ (o : Open). o.steps) c.index-opens-place.is)) in
    step_done c.args.step.now c.args.opens.now c.step_all.new.opens c.in-Some.place c.index-opens-place-2.result c.index-opens-place.result c.in_ok-steps.steps first c.index-opens-place.is made c.in_ok-step_all.ensures.ok
