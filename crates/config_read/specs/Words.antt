-- The words of the document, and the names that may stand in it.
use Rattle.std.specs.Prelude.{ℕ, Bool, ◌&&◌, ◌==◌, ◌-◌, nat_le, List, [], ◌∷◌, length, slice_index, slice_range, Option, Result, codes}
use Rattle.std.specs.List.{list_all}
use Rattle.zbx_types.specs.Limits.{longest_name}
use Rattle.zbx_types.specs.NameBytes.{is_host_name_byte, is_macro_name_byte}
use Rattle.zbx_types.specs.declared.items.ItemKind.{ItemKind}
use Rattle.zbx_types.specs.declared.items.ItemKind.TheVariants as kinds
use Rattle.zbx_types.specs.declared.items.ValueType.{ValueType}
use Rattle.zbx_types.specs.declared.items.ValueType.TheVariants as types
use Rattle.zbx_types.specs.declared.steps.StepKind.{StepKind}
use Rattle.zbx_types.specs.declared.steps.StepKind.TheVariants as steps
use Rattle.zbx_types.specs.declared.steps.OnFail.{OnFail}
use Rattle.zbx_types.specs.declared.steps.OnFail.TheVariants as fails
use Rattle.zbx_types.specs.declared.triggers.RecoveryMode.{RecoveryMode}
use Rattle.zbx_types.specs.declared.triggers.RecoveryMode.TheVariants as modes
use Rattle.zbx_types.specs.declared.tag_tests.Matching.{Matching}
use Rattle.zbx_types.specs.declared.tag_tests.Matching.TheVariants as matches
use Rattle.zbx_types.specs.declared.tag_tests.TagOp.{TagOp}
use Rattle.zbx_types.specs.declared.tag_tests.TagOp.TheVariants as ops
use Rattle.json_form.specs.Faults.{Fault, ◌>>=◌}
use Rattle.json_form.specs.Places.{Place, text_that, free}
use Rattle.json_form.specs.Wording.{first_of_word}

-- the name of a host or template: 1 to 128 of the bytes that it may have
abbrev pub is_host_name : List ℕ → Bool
is_host_name name = nat_le 1 (length name) && nat_le (length name) longest_name && list_all is_host_name_byte name

-- `{$NAME}` with a NAME of the bytes that it may have, at most 255 bytes in all
abbrev pub is_macro_name : List ℕ → Bool
is_macro_name name = nat_le 4 (length name) && nat_le (length name) 255 && slice_index name 0 == 123 && slice_index name 1 == 36 && slice_index name (length name - 1) == 125 && list_all is_macro_name_byte (slice_range name 2 (length name - 1))

-- any other name: 1 to 255 bytes
abbrev pub is_title : List ℕ → Bool
is_title name = nat_le 1 (length name) && nat_le (length name) 255

-- a name of this form that isn't taken
unfoldable pub new_name : (List ℕ → Bool) → List (List ℕ) → Place → Result (List ℕ) Fault
new_name form taken at = text_that form at >>= λ name. free taken at name

-- where the values of an item come from
abbrev pub item_kind : List ℕ → Option ItemKind
item_kind = first_of_word ((codes "trapper", kinds.Trapper) ∷ (codes "dependent", kinds.Dependent) ∷ (codes "active", kinds.Active) ∷ [])

-- what the values of an item are
abbrev pub value_type : List ℕ → Option ValueType
value_type = first_of_word ((codes "number", types.Number) ∷ (codes "text", types.Words) ∷ [])

-- what a step does
abbrev pub step_kind : List ℕ → Option StepKind
step_kind = first_of_word (
    (codes "regex", steps.Regex) ∷ (codes "replace", steps.Replace) ∷ (codes "trim", steps.Trim) ∷ (codes "ltrim", steps.LTrim) ∷ (codes "rtrim", steps.RTrim)
    ∷ (codes "jsonpath", steps.JsonPath) ∷ (codes "multiplier", steps.Multiplier) ∷ (codes "simple_change", steps.SimpleChange) ∷ (codes "change_per_second", steps.ChangePerSecond)
    ∷ (codes "bool_to_decimal", steps.BoolToDecimal) ∷ (codes "octal_to_decimal", steps.OctalToDecimal) ∷ (codes "hex_to_decimal", steps.HexToDecimal)
    ∷ (codes "in_range", steps.InRange) ∷ (codes "matches", steps.Matches) ∷ (codes "not_matches", steps.NotMatches)
    ∷ (codes "json_error", steps.JsonError) ∷ (codes "regex_error", steps.RegexError)
    ∷ (codes "throttle", steps.Throttle) ∷ (codes "throttle_heartbeat", steps.ThrottleHeartbeat) ∷ [])

-- what comes of a value at which a step fails
abbrev pub on_fail : List ℕ → Option OnFail
on_fail = first_of_word ((codes "empty", fails.Empty) ∷ (codes "discard", fails.Discard) ∷ (codes "value", fails.Value) ∷ (codes "error", fails.Error) ∷ [])

-- how the problems of a trigger close
abbrev pub recovery_mode : List ℕ → Option RecoveryMode
recovery_mode = first_of_word ((codes "expression", modes.Expression) ∷ (codes "recovery_expression", modes.RecoveryExpression) ∷ (codes "none", modes.Nothing) ∷ [])

-- how conditions are joined
abbrev pub matching : List ℕ → Option Matching
matching = first_of_word ((codes "and", matches.And) ∷ (codes "or", matches.Or) ∷ [])

-- how the value of a tag is compared
abbrev pub tag_op : List ℕ → Option TagOp
tag_op = first_of_word ((codes "equals", ops.Equals) ∷ (codes "contains", ops.Contains) ∷ (codes "not_equals", ops.NotEquals) ∷ (codes "not_contains", ops.NotContains) ∷ [])
