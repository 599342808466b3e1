use Rattle.std.proofs.Common.{take}
use Rattle.std.specs.Prelude.{All}
use Rattle.zbx_types.specs.declared.entries.Tag.{Tag}
use Rattle.event_text.specs.Titles.{HasPatterns}
use Rattle.conf_index.proofs.patterned.tags_have.Given as goal

abbrev pub invariant-loop-tag : goal.invariant-loop-tag
invariant-loop-tag l = All (λ (tag : Tag). HasPatterns l.texts tag.value) (take l.tag-index l.tags)
