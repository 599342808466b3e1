-- What the calls of a configuration ask for.
use Rattle.std.specs.Prelude.{◌≡◌, ◌≤◌, ℕ, ◌+◌, List, map, All}
use Rattle.zbx_types.specs.Ids.{at_id}
use Rattle.zbx_types.specs.Operators.{call_pattern}
use Rattle.zbx_types.specs.declared.calls.Call.{Call}
use Rattle.zbx_types.specs.declared.conf.Conf.{Conf}
use Rattle.zbx_types.specs.declared.triggers.Trigger.{Trigger}
use Rattle.history_functions.specs.Matching.{pattern_place}
use Rattle.value_cache.specs.Keeps.{seconds_in, most_seconds}

-- the places of the patterns of a trigger's calls, 0 where a call has none
abbrev pub places_of : List (List ℕ) → Trigger → List ℕ
places_of patterns trigger = map (λ call. pattern_place (call_pattern call) patterns) trigger.calls

-- a call can be evaluated: its pattern stands at its place, and its shift and period can be counted
pub record IsAsked (patterns : List (List ℕ)) (call : Call) : Type 0 where
  pub pattern : at_id patterns (pattern_place (call_pattern call) patterns) ≡ call_pattern call
  pub period : call.shift + seconds_in call.range ≤ most_seconds

-- so can all calls of all triggers
abbrev pub AreAsked : List (List ℕ) → List Trigger → Type 0
AreAsked patterns triggers = All (λ trigger. All (IsAsked patterns) trigger.calls) triggers

-- so can all calls of a configuration
pub record ArePlaced (patterns : List (List ℕ)) (conf : Conf) : Type 0 where
  pub asked : AreAsked patterns conf.triggers
