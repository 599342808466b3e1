-- Steps on patterns.
use Rattle.std.specs.Prelude.{ℕ, List, [], ◌∷◌, Option, Some, None, is_some, option_map, if◌then◌else◌, codes}
use Rattle.regex.specs.Patterns.{Match}
use Rattle.zbx_types.specs.Steps.{has_pattern}
use Rattle.zbx_types.specs.declared.steps.StepSpec.{StepSpec}
use Rattle.pattern_set.specs.Patterns.{leftmost}
use Rattle.pattern_set.specs.Filling.{filled_of}
use Rattle.pattern_set.specs.Places.{place_of}
use Rattle.prep_steps.specs.Outcomes.{passed, is_short, too_long, parameter}
use Rattle.prep_steps.specs.declared.outcome.Outcome.{Outcome}
use Rattle.prep_steps.specs.declared.outcome.Outcome.TheVariants.{Fail}

-- the output of a match, without which the step fails
abbrev pub output_of : Option (List ℕ) → Outcome
output_of None = Fail (codes "no match")
output_of (Some output) = passed output

-- the regular expression: an output with the groups of the leftmost match filled in
-- (the Zabbix 6.0 manual, "Preprocessing details")
unfoldable pub extracted : List ℕ → List ℕ → List ℕ → Outcome
extracted pattern output value = output_of (filled_of pattern value output)

-- a value passes where there is a match
abbrev pub wanted : Option Match → List ℕ → Outcome
wanted found value = if is_some found then passed value else Fail (codes "no match")

-- a value passes where there is no match
abbrev pub unwanted : Option Match → List ℕ → Outcome
unwanted found value = if is_some found then Fail (codes "match") else passed value

-- the test that a regular expression matches (the Zabbix 6.0 manual, "Preprocessing details")
unfoldable pub matched : List ℕ → List ℕ → Outcome
matched pattern value = wanted (leftmost pattern value) value

-- the test that a regular expression doesn't match (the Zabbix 6.0 manual, "Preprocessing details")
unfoldable pub not_matched : List ℕ → List ℕ → Outcome
not_matched pattern value = unwanted (leftmost pattern value) value

-- an error text fails the step, unless it is empty
abbrev pub unless : Option (List ℕ) → List ℕ → Outcome
unless None value = passed value
unless (Some []) value = passed value
unless (Some (c ∷ rest)) value = Fail (c ∷ rest)

-- an error text, or `too long` in the place of one above 65,535 bytes
abbrev pub shortened : List ℕ → List ℕ
shortened error = if is_short error then error else too_long

-- a filled output that is an error text
abbrev pub refused : Option (List ℕ) → List ℕ → Outcome
refused output value = unless (option_map shortened output) value

-- the check for an error with a regular expression (the Zabbix 6.0 manual, "Preprocessing details")
unfoldable pub checked : List ℕ → List ℕ → List ℕ → Outcome
checked pattern output value = refused (filled_of pattern value output) value

-- the place of a step's pattern among patterns, 0 where its kind has none
abbrev pub pattern_place : StepSpec → List (List ℕ) → ℕ
pattern_place step patterns = if has_pattern step.kind then place_of (parameter step.params 0) patterns else 0
