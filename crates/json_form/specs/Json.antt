-- The JSON value of a text.
use Rattle.std.specs.Prelude.{ℕ, List, length, nat_le, Option, Some, None, Result, Ok, if◌then◌else◌}
use Rattle.std.specs.Str.{is_utf8}
use Rattle.serde_json.specs.Data.{Data}
use Rattle.serde_json.specs.Read.{read as read_json}
use Rattle.zbx_types.specs.declared.causes.Cause.TheVariants.{TooLong, NotJson}
use Rattle.json_form.specs.Faults.{Fault}
use Rattle.json_form.specs.Places.{nowhere, refuse}

-- the value of a text in UTF-8, as `serde_json` reads it, if it is one
abbrev pub json_of : List ℕ → Option Data
json_of bytes = if is_utf8 bytes then read_json bytes else None

-- the value, or else that there is no JSON
abbrev pub or_not_json : Option Data → Result Data Fault
or_not_json None = refuse nowhere NotJson
or_not_json (Some d) = Ok d

-- the value of a text of at most so many bytes
unfoldable pub json_within : ℕ → List ℕ → Result Data Fault
json_within limit bytes = if nat_le (length bytes) limit then or_not_json (json_of bytes) else refuse nowhere TooLong
