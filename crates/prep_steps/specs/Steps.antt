-- What each step makes of a value (the Zabbix 6.0 manual, "Preprocessing details").
use Rattle.std.specs.Prelude.{ℕ, Bool, true, false, List}
use Rattle.zbx_types.specs.declared.steps.StepSpec.{StepSpec}
use Rattle.zbx_types.specs.declared.steps.StepKind.{StepKind}
use Rattle.zbx_types.specs.declared.steps.StepKind.TheVariants.{Regex, Replace, Trim, LTrim, RTrim, JsonPath, Multiplier, SimpleChange, ChangePerSecond, BoolToDecimal, OctalToDecimal}
use Rattle.zbx_types.specs.declared.steps.StepKind.TheVariants.{HexToDecimal, InRange, Matches, NotMatches, JsonError, RegexError, Throttle, ThrottleHeartbeat}
use Rattle.prep_steps.specs.Changes.{changed, rated}
use Rattle.prep_steps.specs.Digits.{bool_to_decimal, octal_to_decimal, hex_to_decimal}
use Rattle.prep_steps.specs.Matching.{extracted, matched, not_matched, checked}
use Rattle.prep_steps.specs.Numbering.{multiplied, ranged}
use Rattle.prep_steps.specs.Outcomes.{parameter, kept, passed}
use Rattle.prep_steps.specs.Throttling.{unchanged, unchanged_within}
use Rattle.prep_steps.specs.Words.{trimmed, trimmed_left, trimmed_right, replaced}
use Rattle.prep_steps.specs.declared.memory.StepMemory.{StepMemory}
use Rattle.prep_steps.specs.declared.outcome.Outcome.TheVariants.{Discard}
use Rattle.prep_steps.specs.declared.outcome.StepDone.{StepDone}

-- the step looks into JSON texts, and isn't made here
abbrev pub looks_into_json : StepKind → Bool
looks_into_json JsonPath = true
looks_into_json JsonError = true
looks_into_json _ = false

-- what a step of a kind makes of a value with two parameters; of a JSON step nothing is said here
abbrev pub made_by : StepKind → List ℕ → List ℕ → StepMemory → List ℕ → ℕ → StepDone
made_by Regex first second memory value time = kept memory (extracted first second value)
made_by Replace first second memory value time = kept memory (passed (replaced first second value))
made_by Trim first second memory value time = kept memory (passed (trimmed first value))
made_by LTrim first second memory value time = kept memory (passed (trimmed_left first value))
made_by RTrim first second memory value time = kept memory (passed (trimmed_right first value))
made_by JsonPath first second memory value time = kept memory Discard
made_by Multiplier first second memory value time = kept memory (multiplied first value)
made_by SimpleChange first second memory value time = changed memory value time
made_by ChangePerSecond first second memory value time = rated memory value time
made_by BoolToDecimal first second memory value time = kept memory (bool_to_decimal value)
made_by OctalToDecimal first second memory value time = kept memory (octal_to_decimal value)
made_by HexToDecimal first second memory value time = kept memory (hex_to_decimal value)
made_by InRange first second memory value time = kept memory (ranged first second value)
made_by Matches first second memory value time = kept memory (matched first value)
made_by NotMatches first second memory value time = kept memory (not_matched first value)
made_by JsonError first second memory value time = kept memory Discard
made_by RegexError first second memory value time = kept memory (checked first second value)
made_by Throttle first second memory value time = unchanged memory value time
made_by ThrottleHeartbeat first second memory value time = unchanged_within first memory value time

-- what a step makes of a value that came at a moment, with the memory before it
unfoldable pub done_of : StepSpec → StepMemory → List ℕ → ℕ → StepDone
done_of step memory value time = made_by step.kind (parameter step.params 0) (parameter step.params 1) memory value time
