-- Preprocessing steps.
use Rattle.std.specs.Prelude.{ℕ, Bool, true, false, ◌&&◌, ◌||◌, ◌==◌, List, [], length, Result, Ok, codes, if◌then◌else◌}
use Rattle.zbx_types.specs.declared.causes.Cause.TheVariants.{BadMember, TooMany}
use Rattle.zbx_types.specs.declared.steps.StepSpec.{StepSpec}
use Rattle.zbx_types.specs.declared.steps.StepKind.{StepKind}
use Rattle.zbx_types.specs.declared.steps.StepKind.TheVariants as steps
use Rattle.zbx_types.specs.declared.steps.OnFail.TheVariants as fails
use Rattle.json_form.specs.Faults.{Fault, ◌>>=◌}
use Rattle.json_form.specs.Places.{Place, ◌▸◌, refuse, an_object, text, word, given_or, passing}
use Rattle.json_form.specs.Lists.{list_of, at_most, following_list}
use Rattle.config_read.specs.Words.{step_kind, on_fail}

-- how many parameters a step has
abbrev pub param_count : StepKind → ℕ
param_count steps.Regex = 2
param_count steps.Replace = 2
param_count steps.Trim = 1
param_count steps.LTrim = 1
param_count steps.RTrim = 1
param_count steps.JsonPath = 1
param_count steps.Multiplier = 1
param_count steps.SimpleChange = 0
param_count steps.ChangePerSecond = 0
param_count steps.BoolToDecimal = 0
param_count steps.OctalToDecimal = 0
param_count steps.HexToDecimal = 0
param_count steps.InRange = 2
param_count steps.Matches = 1
param_count steps.NotMatches = 1
param_count steps.JsonError = 1
param_count steps.RegexError = 2
param_count steps.Throttle = 0
param_count steps.ThrottleHeartbeat = 1

-- the steps that discard unchanged values
abbrev pub is_throttling : StepKind → Bool
is_throttling steps.Regex = false
is_throttling steps.Replace = false
is_throttling steps.Trim = false
is_throttling steps.LTrim = false
is_throttling steps.RTrim = false
is_throttling steps.JsonPath = false
is_throttling steps.Multiplier = false
is_throttling steps.SimpleChange = false
is_throttling steps.ChangePerSecond = false
is_throttling steps.BoolToDecimal = false
is_throttling steps.OctalToDecimal = false
is_throttling steps.HexToDecimal = false
is_throttling steps.InRange = false
is_throttling steps.Matches = false
is_throttling steps.NotMatches = false
is_throttling steps.JsonError = false
is_throttling steps.RegexError = false
is_throttling steps.Throttle = true
is_throttling steps.ThrottleHeartbeat = true

-- the kind of a step, which is no second throttling one
abbrev pub unless_again : Bool → Place → StepKind → Result StepKind Fault
unless_again throttled at kind = if throttled && is_throttling kind then refuse at BadMember else Ok kind

-- the kind at a place, where a throttling step stands before or not
unfoldable pub kind_of : Bool → Place → Result StepKind Fault
kind_of throttled at = word step_kind at >>= λ kind. unless_again throttled at kind

-- just so many texts
unfoldable pub params_of : ℕ → Place → Result (List (List ℕ)) Fault
params_of count at = list_of text at >>= λ params. passing (λ texts. length texts == count) at params

-- a step, where a throttling one stands before or not
unfoldable pub step_of : Bool → Place → Result StepSpec Fault
step_of throttled at = do
  o ← an_object at
  kind ← kind_of throttled (o ▸ codes "kind")
  params ← params_of (param_count kind) (o ▸ codes "params")
  fail ← given_or fails.Empty (word on_fail) (o ▸ codes "on_fail")
  instead ← given_or [] text (o ▸ codes "text")
  Ok (record { kind = kind; params = params; on_fail = fail; text = instead })

-- whether a throttling step stands so far
abbrev pub throttles : Bool → StepSpec → Bool
throttles throttled step = throttled || is_throttling step.kind

-- the steps of an item, 32 at most
unfoldable pub steps_of : Place → Result (List StepSpec) Fault
steps_of at = at_most 32 TooMany at >>= λ few. following_list throttles step_of false few
