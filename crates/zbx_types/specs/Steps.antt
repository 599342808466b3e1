-- Preprocessing steps by their kinds.
use Rattle.std.specs.Prelude.{Bool, true, false}
use Rattle.zbx_types.specs.declared.steps.StepKind.{StepKind}
use Rattle.zbx_types.specs.declared.steps.StepKind.TheVariants.{Regex, Matches, NotMatches, RegexError}

-- the step's first parameter is a pattern
abbrev pub has_pattern : StepKind → Bool
has_pattern Regex = true
has_pattern Matches = true
has_pattern NotMatches = true
has_pattern RegexError = true
has_pattern _ = false
