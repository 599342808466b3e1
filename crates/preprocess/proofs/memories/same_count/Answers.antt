use Rattle.std.proofs.Common.{◌≡◌, ◌∙◌, ◌++◌, sym, subst, map, take, drop, arith}
use Rattle.zbx_types.specs.declared.steps.StepSpec.{StepSpec}
use Rattle.prep_steps.specs.Outcomes.{unmarked}
use Rattle.preprocess.specs.Carry.{carried_along}
use Rattle.preprocess.proofs.GoingOn.{goes_on, stops, ends}
use Rattle.preprocess.proofs.memories.same_count.Goals as goal

pub returns-then-not-same_step-clause-along : goal.returns-then-not-same_step-clause-along
returns-then-not-same_step-clause-along c =
    stops c.args.olds.now c.args.steps.now c.args.marks.now (carried_along c.args.olds.now c.args.marks.now c.args.steps.now) c.loop-place.place
    c.index-olds-place.result c.index-steps-place.result (omega (arith, c.loop-place-test.true, c.min.ensures, c.min-least.ensures))
    c.index-olds-place.is c.index-steps-place.is (sym c.same_step.ensures ∙ c.if-not-same_step.true) c.loop-place.invariant

pub loop-place-preserved : goal.loop-place-preserved
loop-place-preserved c =
    goes_on c.args.olds.now c.args.steps.now c.args.marks.now (carried_along c.args.olds.now c.args.marks.now c.args.steps.now) c.loop-place.place
    c.index-olds-place.result c.index-steps-place.result (omega (arith, c.loop-place-test.true, c.min.ensures, c.min-least.ensures))
    c.index-olds-place.is c.index-steps-place.is (sym c.same_step.ensures ∙ c.if-not-same_step.false) c.loop-place.invariant

pub returns-clause-along : goal.returns-clause-along
returns-clause-along c =
    let at : c.loop-place.place ≡ c.min-least.result = omega (arith, c.loop-place-test.false, c.loop-place.auto.place-end) in
    let whole = carried_along c.args.olds.now c.args.marks.now c.args.steps.now in
    subst (λ n. whole ≡ take n c.args.marks.now ++ map (λ (s : StepSpec). unmarked) (drop n c.args.steps.now)) at
    (ends c.args.olds.now c.args.steps.now c.args.marks.now whole c.loop-place.place (omega (arith, c.loop-place-test.false, c.min.ensures, c.min-least.ensures)) c.loop-place.invariant)
