-- What a text says as JSON, and as a path into JSON.
use Rattle.std.specs.Prelude.{ℕ, nat_le, List, length, Option, Some, None, ◌⊎◌, if◌then◌else◌}
use Rattle.std.proofs.Common.{inl, inr}
use Rattle.json_text.specs.Json.{Json}
use Rattle.json_text.specs.Grammar.{IsText}
use Rattle.json_text.proofs.Deciding.{is_text_or_not}
use Rattle.json_path.specs.Grammar.{IsPathText}
use Rattle.json_path.specs.declared.path.Path.{Path}
use Rattle.json_path.proofs.Deciding.{is_path_or_not}
use Rattle.zbx_types.specs.Limits.{longest_value}

-- the value of JSON that a text is, from a decision whether it is one
abbrev pub json_found : {text : List ℕ} → IsText text ⊎ (IsText text → ⊥) → Option Json
json_found (inl (json, is)) = Some json
json_found (inr refuted) = None

-- the value of JSON that a text is, where it is one (RFC 8259): a text is at most one value
unfoldable pub json_in : List ℕ → Option Json
json_in text = json_found (is_text_or_not text)

-- the path that a text is, from a decision whether it is one
abbrev pub path_found : {text : List ℕ} → IsPathText text ⊎ (IsPathText text → ⊥) → Option Path
path_found (inl (path, is)) = Some path
path_found (inr refuted) = None

-- the path that a text of at most 65,535 bytes is, where it is one (the Zabbix 6.0 manual, "JSONPath functionality")
unfoldable pub path_in : List ℕ → Option Path
path_in text = if nat_le (length text) longest_value then path_found (is_path_or_not text) else None
