use Rattle.config_templates.specs.Expressions.{expressions_of}
use Rattle.config_templates.proofs.resolving.meaning_of.Goals as goal

pub returns : goal.returns
unfolding expressions_of
returns c = c.both_meant.ensures
