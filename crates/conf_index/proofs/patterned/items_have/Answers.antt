use Rattle.std.proofs.Common.{subst}
use Rattle.zbx_types.specs.declared.items.Item.{Item}
use Rattle.zbx_types.specs.declared.steps.StepSpec.{StepSpec}
use Rattle.std.proofs.Common.{List}
use Rattle.preprocess.specs.Ways.{HavePatterns}
use Rattle.conf_index.proofs.Sight.{all_more, all_end}
use Rattle.conf_index.proofs.patterned.items_have.Goals as goal

pub loop-item-preserved : goal.loop-item-preserved
loop-item-preserved c =
    let P : Item → Type 0 = λ item. HavePatterns c.args.texts.now item.steps in
    all_more P c.args.items.now c.loop-item.item-index c.item-item.result c.loop-item-test.true c.loop-item.invariant
    (subst P c.item-item.is (subst (λ (steps : List StepSpec). HavePatterns c.args.texts.now steps) c.as_slice.ensures (c.steps_have.ensures c.if-not-steps_have.false)))

pub returns : goal.returns
returns c =
    let P : Item → Type 0 = λ item. HavePatterns c.args.texts.now item.steps in
    λ _. all_end P c.args.items.now c.loop-item.item-index c.loop-item-test.false c.loop-item.invariant
