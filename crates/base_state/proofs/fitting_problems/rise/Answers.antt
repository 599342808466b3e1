use Rattle.std.proofs.Common.{ap, arith}
use Rattle.zbx_types.specs.declared.base.BaseProblem.{BaseProblem}
use Rattle.zbx_types.specs.declared.entries.EventId.{EventId}
use Rattle.entry_step.specs.Each.{EachPair}
use Rattle.base_state.specs.Fitting.{IsOfEarlier}
use Rattle.base_state.proofs.Pairs.{no, pairs_on, pairs_at}
use Rattle.base_state.proofs.fitting_problems.rise.Goals as goal

goes_on : (p q r : BaseProblem) → IsOfEarlier p q → IsOfEarlier q r → IsOfEarlier p r
goes_on p q r a b = omega (arith, a, b)

pub returns-then-event : goal.returns-then-event
returns-then-event c = no (EachPair IsOfEarlier c.args.problems.now) (λ e.
    (let r = pairs_at IsOfEarlier c.args.problems.now c.loop-place.place c.index-problems-place.result c.index-problems-place-in-loop-place.result c.loop-place.auto.place c.loop-place-test.true c.index-problems-place.is
    c.index-problems-place-in-loop-place.is e in
    let a = ap (λ (v : EventId). v.number) c.event.ensures in
    let b = ap (λ (v : EventId). v.number) c.event-in-loop-place.ensures in
    let t = c.if-event.true in omega (arith, r, a, b, t)))

pub loop-place-preserved : goal.loop-place-preserved
loop-place-preserved c =
    let a = ap (λ (v : EventId). v.number) c.event.ensures in
    let b = ap (λ (v : EventId). v.number) c.event-in-loop-place.ensures in
    let t = c.if-event.false in
    pairs_on IsOfEarlier c.args.problems.now c.loop-place.place c.index-problems-place.result c.index-problems-place-in-loop-place.result c.loop-place.auto.place c.loop-place-test.true c.index-problems-place.is
    c.index-problems-place-in-loop-place.is goes_on (omega (arith, a, b, t)) c.loop-place.invariant
