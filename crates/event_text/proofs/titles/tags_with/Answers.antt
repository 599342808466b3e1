use Rattle.std.proofs.Common.{sym, subst}
use Rattle.zbx_types.specs.declared.entries.Tag.{Tag}
use Rattle.event_text.specs.Titles.{HasPatterns}
use Rattle.event_text.proofs.titles.tags_with.Goals as goal

pub event_tag-requires : goal.event_tag-requires
event_tag-requires c =
    subst (λ (tag : Tag). HasPatterns c.args.patterns.now tag.value) (sym c.tag-item.is) (c.requires c.loop-tag.tag-index c.tag-item.result c.loop-tag-test.true)
