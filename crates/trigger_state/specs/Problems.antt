-- Open problems, found by searching the records. Records stand in the order in which they were made.
use Rattle.std.specs.Prelude.{ℕ, ◌==◌, Bool, false, not, ◌&&◌, List, [], ◌∷◌, ◌++◌, map, filter, bytes_eq, if◌then◌else◌}
use Rattle.std.specs.List.{list_any}
use Rattle.std.specs.Cmp.Lexicographic.{slice_cmp}
use Rattle.std.specs.Ordering.{nat_cmp, is_lt}
use Rattle.zbx_types.specs.Records.{same_event, event_of}
use Rattle.zbx_types.specs.declared.entries.EventId.{EventId}
use Rattle.zbx_types.specs.declared.entries.Rec.{Rec}
use Rattle.zbx_types.specs.declared.entries.Rec.TheVariants.{Failure, Problem, Recovery, Step, Message}
use Rattle.trigger_state.specs.Stages.{Stage, home, rank_of}
use Rattle.trigger_state.specs.declared.problems.Open.{Open}

-- a record makes a problem of the trigger with an id
abbrev pub opens : Stage → ℕ → Rec → Bool
opens stage id (Problem event now severity suppressed host trigger name tags) = home stage event == id
opens stage id (Failure number host key why) = false
opens stage id (Recovery event by now cause) = false
opens stage id (Step event action step now) = false
opens stage id (Message event action step recipient subject body) = false

-- a record is the recovery of an event
abbrev pub recovers : EventId → Rec → Bool
recovers e (Recovery event by now cause) = same_event e event
recovers e (Failure number host key why) = false
recovers e (Problem event now severity suppressed host trigger name tags) = false
recovers e (Step event action step now) = false
recovers e (Message event action step recipient subject body) = false

-- a record is an escalation step for an event
abbrev pub is_step_of : EventId → Rec → Bool
is_step_of e (Step event action step now) = same_event e event
is_step_of e (Failure number host key why) = false
is_step_of e (Problem event now severity suppressed host trigger name tags) = false
is_step_of e (Recovery event by now cause) = false
is_step_of e (Message event action step recipient subject body) = false

-- the action of a step, by name; other records have none
abbrev pub action_of : Rec → List ℕ
action_of (Step event action step now) = action
action_of (Failure number host key why) = []
action_of (Problem event now severity suppressed host trigger name tags) = []
action_of (Recovery event by now cause) = []
action_of (Message event action step recipient subject body) = []

-- two steps are of one action
abbrev pub same_action : Rec → Rec → Bool
same_action a b = bytes_eq (action_of a) (action_of b)

-- a step's action stands before another one's in the order of the bytes of their names
abbrev pub is_before : Rec → Rec → Bool
is_before a b = is_lt (slice_cmp nat_cmp (action_of a) (action_of b))

-- steps in the order of their actions' names with one more: in the place of the one of its action, else where it belongs
abbrev pub with_step : List Rec → Rec → List Rec
with_step [] s = s ∷ []
with_step (x ∷ xs) s =
    if is_before x s then x ∷ with_step xs s else if same_action x s then s ∷ xs else s ∷ x ∷ xs

-- the last step of each action for an event, in the order of the actions' names, where these were there before
abbrev pub steps_from : EventId → List Rec → List Rec → List Rec
steps_from e steps [] = steps
steps_from e steps (r ∷ rs) = steps_from e (if is_step_of e r then with_step steps r else steps) rs

-- the last step of each action for an event, in the order of the actions' names
abbrev pub steps_of : EventId → List Rec → List Rec
steps_of e rs = steps_from e [] rs

-- the problem that a record makes, with the rank of its event and the steps that these later records run for it
abbrev pub opened : Stage → Rec → List Rec → Open
opened stage r later = record { problem = r; steps = steps_of (event_of r) later; rank = rank_of stage (event_of r) }

-- the event of an open problem
abbrev pub event_in : Open → EventId
event_in o = event_of o.problem

-- the open problems of a trigger: its Problem records whose event no later Recovery names
abbrev pub open_of : Stage → List Rec → ℕ → List Open
open_of stage [] id = []
open_of stage (r ∷ rs) id = if opens stage id r && not (list_any (recovers (event_of r)) rs) then opened stage r rs ∷ open_of stage rs id else open_of stage rs id

-- a record changes the open problems of the trigger with an id
abbrev pub lands : Stage → Rec → ℕ → Bool
lands stage (Problem event now severity suppressed host trigger name tags) id = home stage event == id
lands stage (Recovery event by now cause) id = home stage event == id
lands stage (Step event action step now) id = home stage event == id
lands stage (Failure number host key why) id = false
lands stage (Message event action step recipient subject body) id = false

-- an open problem behind a step
abbrev pub stepped : Rec → Open → Open
stepped s o = if same_event (event_in o) (event_of s) then record { problem = o.problem; steps = with_step o.steps s; rank = o.rank } else o

-- the open problems of a trigger with one more record
unfoldable pub absorbed : Stage → ℕ → List Open → Rec → List Open
absorbed stage id os (Problem event now severity suppressed host trigger name tags) =
    if home stage event == id then os ++ opened stage (Problem event now severity suppressed host trigger name tags) [] ∷ [] else os
absorbed stage id os (Recovery event by now cause) =
    if home stage event == id then filter (λ o. not (same_event (event_in o) event)) os else os
absorbed stage id os (Step event action step now) = if home stage event == id then map (stepped (Step event action step now)) os else os
absorbed stage id os (Failure number host key why) = os
absorbed stage id os (Message event action step recipient subject body) = os

-- and with some more
abbrev pub absorbed_all : Stage → ℕ → List Open → List Rec → List Open
absorbed_all stage id os [] = os
absorbed_all stage id os (r ∷ rs) = absorbed_all stage id (absorbed stage id os r) rs

-- the open problems of all triggers with some more records
abbrev pub grown : Stage → (ℕ → List Open) → List Rec → ℕ → List Open
grown stage all rs id = absorbed_all stage id (all id) rs
