-- What a chain knows of its text as JSON.
use Rattle.std.specs.Prelude.{◌≡◌, ℕ, List, Some, None, ⊤}
use Rattle.json_text.specs.Trees.{json_of}
use Rattle.preprocess.specs.Readings.{json_in}
use Rattle.preprocess.specs.declared.json.Parsed.{Parsed}
use Rattle.preprocess.specs.declared.json.Parsed.TheVariants.{Unread, NotJson, Json}

-- what is known is so
abbrev pub IsParsed : List ℕ → Parsed → Type 0
IsParsed text Unread = ⊤
IsParsed text NotJson = json_in text ≡ None
IsParsed text (Json tree) = json_in text ≡ Some (json_of tree)
