-- Steps that look into JSON texts.
use Rattle.std.specs.Prelude.{ℕ, List, Option, Some, None, Result, Ok, Err, codes}
use Rattle.json_text.specs.Json.{Json}
use Rattle.json_path.specs.Results.{select_of}
use Rattle.json_path.specs.declared.path.Path.{Path}
use Rattle.json_path.specs.declared.results.SelectError.{SelectError}
use Rattle.json_path.specs.declared.results.SelectError.TheVariants.{NoMatch, NotNumber, OutOfMemory}
use Rattle.prep_steps.specs.Matching.{unless}
use Rattle.prep_steps.specs.Outcomes.{passed}
use Rattle.prep_steps.specs.declared.outcome.Outcome.{Outcome}
use Rattle.prep_steps.specs.declared.outcome.Outcome.TheVariants.{Fail}
use Rattle.preprocess.specs.declared.json.Found.{Found}
use Rattle.preprocess.specs.declared.json.Found.TheVariants.{NotJson, NoValue, NotNumber as NoNumber, Words}

-- what a path selects, as a find
abbrev pub found_of : Result (List ℕ) SelectError → Found
found_of (Ok text) = Words text
found_of (Err NoMatch) = NoValue
found_of (Err NotNumber) = NoNumber
found_of (Err OutOfMemory) = NoValue

-- what a path finds in a text that is this value of JSON; a parameter that is no path finds nothing
abbrev pub found_in : Option Json → Option Path → Found
found_in None path = NotJson
found_in (Some json) None = NoValue
found_in (Some json) (Some path) = found_of (select_of json path)

-- JSONPath: what the path finds (the Zabbix 6.0 manual, "Preprocessing details")
abbrev pub selected : Found → Outcome
selected NotJson = Fail (codes "not JSON")
selected NoValue = Fail (codes "no value at the path")
selected NoNumber = Fail (codes "not a number")
selected (Words text) = passed text

-- the error text that a path finds, if it finds one
abbrev pub error_in : Found → Option (List ℕ)
error_in NotJson = None
error_in NoValue = None
error_in NoNumber = None
error_in (Words text) = Some text

-- the check for an error in JSON: an error text that isn't empty fails the step, and else the value goes on
-- (the Zabbix 6.0 manual, "Preprocessing details")
abbrev pub json_checked : Found → List ℕ → Outcome
json_checked found value = unless (error_in found) value
