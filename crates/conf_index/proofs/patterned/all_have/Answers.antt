use Rattle.std.proofs.Common.{subst}
use Rattle.conf_index.specs.Patterned.{HasTexts}
use Rattle.conf_index.proofs.Sight.{all_more, all_end}
use Rattle.conf_index.proofs.patterned.all_have.Goals as goal

pub loop-trigger-preserved : goal.loop-trigger-preserved
loop-trigger-preserved c =
    all_more (HasTexts c.args.texts.now) c.args.triggers.now c.loop-trigger.trigger-index c.trigger-item.result c.loop-trigger-test.true c.loop-trigger.invariant
    (subst (HasTexts c.args.texts.now) c.trigger-item.is (c.in_ok-trigger_has.ensures c.if-not-branch.false))

pub returns : goal.returns
returns c = λ _. all_end (HasTexts c.args.texts.now) c.args.triggers.now c.loop-trigger.trigger-index c.loop-trigger-test.false c.loop-trigger.invariant
