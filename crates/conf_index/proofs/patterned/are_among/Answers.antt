use Rattle.std.proofs.Common.{subst}
use Rattle.std.specs.Prelude.{Contains}
use Rattle.zbx_types.specs.declared.text.Text.{Text}
use Rattle.conf_index.proofs.Sight.{all_more, all_end}
use Rattle.conf_index.proofs.patterned.are_among.Goals as goal

pub loop-one-preserved : goal.loop-one-preserved
loop-one-preserved c =
    let P : Text → Type 0 = λ text. Contains c.args.texts.now text in
    let item = c.one-item.result in
    all_more P c.args.asked.now c.loop-one.one-index item c.loop-one-test.true c.loop-one.invariant
    (subst P c.one-item.is (c.is_among.ensures c.if-not-is_among.false))

pub returns : goal.returns
returns c =
    let P : Text → Type 0 = λ text. Contains c.args.texts.now text in
    λ _. all_end P c.args.asked.now c.loop-one.one-index c.loop-one-test.false c.loop-one.invariant
