-- The steps of an action rise, each by one.
use Rattle.std.specs.Prelude.{◌≡◌, ◌≢◌, ◌≤◌, ℕ, ◌+◌, Bool, false, ◌&&◌, List, [], ◌∷◌, ◌++◌, bytes_eq, filter_map, Option, Some, None, if◌then◌else◌}
use Rattle.zbx_types.specs.Records.{same_event}
use Rattle.zbx_types.specs.declared.actions.Action.{Action}
use Rattle.zbx_types.specs.declared.entries.EventId.{EventId}
use Rattle.zbx_types.specs.declared.entries.Numbered.{Numbered}
use Rattle.zbx_types.specs.declared.entries.Rec.{Rec}
use Rattle.zbx_types.specs.declared.entries.Rec.TheVariants.{Failure, Problem, Recovery, Step, Message}
use Rattle.escalations.specs.Laws.{KeepsLast}
use Rattle.escalations.specs.Steps.{number_behind, last_step}
use Rattle.trigger_state.specs.Stages.{Stage}
use Rattle.trigger_state.specs.Problems.{event_in, open_of}
use Rattle.entry_step.specs.Each.{Each, EachPair}
use Rattle.entry_step.specs.Log.{last_number, IsRising}
use Rattle.entry_step.specs.Records.{replay}
use Rattle.entry_step.specs.Start.{Start, fresh}

-- the number of a step of this event and action; another record has none
abbrev pub step_of : EventId → List ℕ → Rec → Option ℕ
step_of e name (Step event action step now) = if same_event e event && bytes_eq action name then Some step else None
step_of e name (Failure number host key why) = None
step_of e name (Problem event now severity suppressed host trigger title tags) = None
step_of e name (Recovery event by now cause) = None
step_of e name (Message event action step recipient subject body) = None

-- the numbers of the steps of an event and action, in the order of their records
abbrev pub steps_run : EventId → List ℕ → List Rec → List ℕ
steps_run event action rs = filter_map (step_of event action) rs

-- numbers count from this one on
abbrev pub Count : ℕ → List ℕ → Type 0
Count next [] = Unit {0}
Count next (n ∷ ns) = (n ≡ next) × Count (n + 1) ns

-- numbers rise, each by one
abbrev pub RiseByOne : List ℕ → Type 0
RiseByOne [] = Unit {0}
RiseByOne (n ∷ ns) = Count (n + 1) ns

-- a step behind these records has the number behind the greatest one of its event and action in them
abbrev pub IsNext : List Rec → Rec → Type 0
IsNext before (Step event action step now) = step ≡ number_behind (last_step before event action)
IsNext before (Failure number host key why) = Unit {0}
IsNext before (Problem event now severity suppressed host trigger name tags) = Unit {0}
IsNext before (Recovery event by now cause) = Unit {0}
IsNext before (Message event action step recipient subject body) = Unit {0}

-- each step among the records behind these has it, over all that stand before it
abbrev pub AreNext : List Rec → List Rec → Type 0
AreNext before [] = Unit {0}
AreNext before (r ∷ rs) = IsNext before r × AreNext (before ++ r ∷ []) rs

-- a record is the Problem of an event, or a step of it
abbrev pub is_of : EventId → Rec → Bool
is_of e (Problem event now severity suppressed host trigger name tags) = same_event e event
is_of e (Step event action step now) = same_event e event
is_of e (Failure number host key why) = false
is_of e (Recovery event by now cause) = false
is_of e (Message event action step recipient subject body) = false

-- a record isn't of an event whose Problem comes behind it
abbrev pub StandsBehind : Rec → Rec → Type 0
StandsBehind r (Problem event now severity suppressed host trigger name tags) = is_of event r ≡ false
StandsBehind r (Failure number host key why) = Unit {0}
StandsBehind r (Recovery event by now cause) = Unit {0}
StandsBehind r (Step event action step now) = Unit {0}
StandsBehind r (Message event action step recipient subject body) = Unit {0}

-- a Problem and a step are of an entry up to this number
abbrev pub IsUpTo : ℕ → Rec → Type 0
IsUpTo number (Problem event now severity suppressed host trigger name tags) = event.number ≤ number
IsUpTo number (Step event action step now) = event.number ≤ number
IsUpTo number (Failure n host key why) = Unit {0}
IsUpTo number (Recovery event by now cause) = Unit {0}
IsUpTo number (Message event action step recipient subject body) = Unit {0}

-- records up to an entry: each problem has one Problem record, its steps stand behind it, and those of one action rise,
-- each by one
pub record HaveSteps (number : ℕ) (rs : List Rec) : Type 0 where
  pub upto : Each (IsUpTo number) rs
  pub behind : EachPair StandsBehind rs
  pub rise : (event : EventId) (action : List ℕ) → RiseByOne (steps_run event action rs)

-- what is kept of the steps of each open problem is, of each action, the last step of all records
abbrev pub KeepLast : Stage → List Rec → Type 0
KeepLast stage rs =
    (id : ℕ) → Each (λ o. (action : List ℕ) → KeepsLast (event_in o) rs o.steps action) (open_of stage rs id)

-- two actions have different names
abbrev pub HaveOwnNames : List Action → Type 0
HaveOwnNames actions = EachPair (λ (a b : Action). a.name ≢ b.name) actions

-- Steps of an action rise: behind a start whose records have steps so, in each log whose numbers rise, each Step record
-- has the number behind the greatest one of its event and action in all records before it. So the records have steps so
-- again, and of each open problem what is kept of its steps is enough.
abbrev pub StepsRise : Type 0
StepsRise =
    (start : Start) (log : List Numbered) → HaveOwnNames start.stage.conf.actions → HaveSteps start.number start.records
    → IsRising start log
    → AreNext start.records (replay start log)
    × HaveSteps (last_number start log) (start.records ++ replay start log)
    × KeepLast start.stage (start.records ++ replay start log)

-- nothing is recorded before a fresh start, so its records have steps so
abbrev pub FreshHasSteps : Type 0
FreshHasSteps = (stage : Stage) → HaveSteps (fresh stage).number (fresh stage).records
