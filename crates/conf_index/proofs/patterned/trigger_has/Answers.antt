use Rattle.std.proofs.Common.{subst, List}
use Rattle.std.specs.Prelude.{All}
use Rattle.zbx_types.specs.declared.entries.Tag.{Tag}
use Rattle.event_text.specs.Titles.{HasPatterns}
use Rattle.conf_index.specs.Patterned.{HasTexts}
use Rattle.conf_index.proofs.patterned.trigger_has.Goals as goal

pub returns : goal.returns
unfolding HasTexts
returns c = λ t. (
  c.in_ok-has_patterns.ensures c.if-not-branch.false,
  subst (λ (xs : List Tag). All (λ (tag : Tag). HasPatterns c.args.texts.now tag.value) xs) c.as_slice.ensures (c.in_ok-have.ensures t),
)
