-- The steps that are due at a Tick.
use Rattle.std.specs.Prelude.{◌≡◌, ℕ, List, [], flat_map}
use Rattle.zbx_types.specs.declared.entries.Entry.{Entry}
use Rattle.zbx_types.specs.declared.entries.Entry.TheVariants.{Config, Value, Tick}
use Rattle.zbx_types.specs.declared.entries.EventId.{EventId}
use Rattle.zbx_types.specs.declared.entries.Rec.{Rec}
use Rattle.zbx_types.specs.declared.entries.Rec.TheVariants.{Failure, Problem, Recovery, Step, Message}
use Rattle.escalations.specs.Escalations.{due_records_of}
use Rattle.trigger_state.specs.Stages.{Stage, home}
use Rattle.trigger_state.specs.Problems.{event_in}
use Rattle.trigger_state.specs.declared.problems.Open.{Open}
use Rattle.entry_step.specs.Order.{by_event}
use Rattle.conf_index.specs.Order.{order}

-- the open problems of all triggers in the order of making
unfoldable pub by_making : Stage → (ℕ → List Open) → List Open
by_making stage all = by_event stage event_in (flat_map all (order stage.conf))

-- the steps that are due at a moment for an open problem, one of each action at most
abbrev pub due_for : Stage → ℕ → Open → List Rec
due_for stage now o = due_records_of stage.conf (home stage (event_in o)) o.problem o.steps now

-- and for all that are open, in the order of making
unfoldable pub due_over : Stage → ℕ → (ℕ → List Open) → List Rec
due_over stage now all = flat_map (due_for stage now) (by_making stage all)

-- the steps that an entry runs, over what is open behind its triggers: those that are due at a Tick
unfoldable pub due_at : Stage → Entry → (ℕ → List Open) → List Rec
due_at stage (Config now text) all = []
due_at stage (Value now item time value) all = []
due_at stage (Tick now) all = due_over stage now all

-- a step of an event, or a message
abbrev pub IsAbout : EventId → Rec → Type 0
IsAbout e (Step event action step now) = event ≡ e
IsAbout e (Message event action step recipient subject body) = Unit {0}
IsAbout e (Failure number host key why) = ⊥
IsAbout e (Problem event now severity suppressed host trigger name tags) = ⊥
IsAbout e (Recovery event by now cause) = ⊥
