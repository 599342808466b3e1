-- The patterns that titles and tags of triggers name are the configuration's.
use Rattle.std.specs.Prelude.{ℕ, List, All}
use Rattle.zbx_types.specs.declared.conf.Conf.{Conf}
use Rattle.zbx_types.specs.declared.entries.Tag.{Tag}
use Rattle.zbx_types.specs.declared.triggers.Trigger.{Trigger}
use Rattle.event_text.specs.Titles.{HasPatterns}

-- the patterns of a trigger's title and of its tags' values are among these
unfoldable pub HasTexts : List (List ℕ) → Trigger → Type 0
HasTexts patterns trigger =
    HasPatterns patterns trigger.title × All (λ (tag : Tag). HasPatterns patterns tag.value) trigger.tags

-- those of all triggers are among the configuration's
unfoldable pub ArePatterned : Conf → Type 0
ArePatterned conf = All (HasTexts conf.patterns) conf.triggers
