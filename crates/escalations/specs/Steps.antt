-- The steps of an action's escalation (the Zabbix 6.0 manual, "Escalations"; the moment of a step is this project's own).
use Rattle.std.specs.Prelude.{ℕ, ◌+◌, ◌==◌, nat_le, min, Bool, true, ◌&&◌, ◌||◌, List, bytes_eq, map, filter, filter_map, Option, Some, None, unwrap_or, if◌then◌else◌}
use Rattle.std.specs.List.{list_any, reduce}
use Rattle.zbx_types.specs.Moments.{seconds_after}
use Rattle.zbx_types.specs.Records.{same_event}
use Rattle.zbx_types.specs.declared.actions.Action.{Action}
use Rattle.zbx_types.specs.declared.actions.Operation.{Operation}
use Rattle.zbx_types.specs.declared.entries.EventId.{EventId}
use Rattle.zbx_types.specs.declared.entries.Rec.{Rec}
use Rattle.zbx_types.specs.declared.entries.Rec.TheVariants.{Failure, Problem, Recovery, Step, Message}
use Rattle.escalations.specs.declared.steps.Ran.{Ran}

-- an operation's steps go up to this one or further
abbrev pub goes_to : ℕ → Operation → Bool
goes_to k operation = operation.to == 0 || nat_le k operation.to

-- a step belongs to an operation
abbrev pub has_step : ℕ → Operation → Bool
has_step k operation = nat_le operation.from k && goes_to k operation

-- the action has this step: it is none before the first or above the last number, and the steps of some operation go to it
abbrev pub step_exists : Action → ℕ → Bool
step_exists action k = nat_le 1 k && nat_le k 4294967295 && list_any (goes_to k) action.operations

-- the operations to which a step belongs
abbrev pub operations_of : Action → ℕ → List Operation
operations_of action k = filter (has_step k) action.operations

-- how many seconds an operation lasts: its own, or the action's where it says 0
abbrev pub lasts : Action → Operation → ℕ
lasts action operation = if operation.duration == 0 then action.step_duration else operation.duration

-- how many seconds a step lasts: as its shortest operation, or as the action says where it has none
abbrev pub duration_of : Action → ℕ → ℕ
duration_of action k = unwrap_or (reduce min (map (lasts action) (operations_of action k))) action.step_duration

-- what f makes of an item and a first one, or the item where there is no first one
abbrev pub with_first : {A : Type 0} → (A → A → A) → Option A → A → A
with_first f None x = x
with_first f (Some a) x = f a x

-- a step of this event and action that ran
abbrev pub ran_of : EventId → List ℕ → Rec → Option Ran
ran_of event action (Step e name step now) =
    if same_event e event && bytes_eq name action then Some (record { step = step; moment = now }) else None
ran_of event action (Failure number host key why) = None
ran_of event action (Problem e now severity suppressed host trigger name tags) = None
ran_of event action (Recovery e by now cause) = None
ran_of event action (Message e name step recipient subject body) = None

-- the one of two steps with the greater number, or the first one
abbrev pub later : Ran → Ran → Ran
later a b = if nat_le b.step a.step then a else b

-- the last step of this event and action that ran: of all their Step records the one with the greatest number
abbrev pub last_step : List Rec → EventId → List ℕ → Option Ran
last_step steps event action = reduce later (filter_map (ran_of event action) steps)

-- the number of the step behind the last one that ran
abbrev pub number_behind : Option Ran → ℕ
number_behind None = 1
number_behind (Some ran) = ran.step + 1

-- that step is due: the first at once, another where the one before it ran as long ago as it lasts
abbrev pub is_due : Action → ℕ → Option Ran → Bool
is_due action now None = true
is_due action now (Some ran) = nat_le (seconds_after (duration_of action ran.step) ran.moment) now

-- the step behind the last one that ran, where the action has it and it is due
unfoldable pub step_due : Action → ℕ → Option Ran → Option ℕ
step_due action now last =
    if step_exists action (number_behind last) && is_due action now last then Some (number_behind last) else None
