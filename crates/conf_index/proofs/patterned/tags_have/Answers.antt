use Rattle.std.proofs.Common.{subst}
use Rattle.zbx_types.specs.declared.entries.Tag.{Tag}
use Rattle.event_text.specs.Titles.{HasPatterns}
use Rattle.conf_index.proofs.Sight.{all_more, all_end}
use Rattle.conf_index.proofs.patterned.tags_have.Goals as goal

pub loop-tag-preserved : goal.loop-tag-preserved
loop-tag-preserved c =
    let P : Tag → Type 0 = λ tag. HasPatterns c.args.texts.now tag.value in
    all_more P c.args.tags.now c.loop-tag.tag-index c.tag-item.result c.loop-tag-test.true c.loop-tag.invariant
    (subst P c.tag-item.is (c.in_ok-has_patterns.ensures c.if-not-branch.false))

pub returns : goal.returns
returns c =
    let P : Tag → Type 0 = λ tag. HasPatterns c.args.texts.now tag.value in
    λ _. all_end P c.args.tags.now c.loop-tag.tag-index c.loop-tag-test.false c.loop-tag.invariant
