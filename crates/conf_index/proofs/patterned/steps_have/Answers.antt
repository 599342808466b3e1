use Rattle.std.proofs.Common.{subst}
use Rattle.preprocess.specs.Ways.{HasPattern}
use Rattle.conf_index.proofs.Sight.{all_more, all_end}
use Rattle.conf_index.proofs.patterned.steps_have.Goals as goal

pub loop-step-preserved : goal.loop-step-preserved
loop-step-preserved c =
    all_more (HasPattern c.args.texts.now) c.args.steps.now c.loop-step.step-index c.step-item.result c.loop-step-test.true c.loop-step.invariant
    (subst (HasPattern c.args.texts.now) c.step-item.is (c.step_has.ensures c.if-not-step_has.false))

pub returns : goal.returns
returns c = λ _. all_end (HasPattern c.args.texts.now) c.args.steps.now c.loop-step.step-index c.loop-step-test.false c.loop-step.invariant
