-- What actions do about a problem (the Zabbix 6.0 manual, "Escalations").
use Rattle.std.specs.Prelude.{ℕ, Bool, not, ◌&&◌, List, [], flat_map, Option, Some, None, is_some, if◌then◌else◌}
use Rattle.zbx_types.specs.Records.{event_of, tags_of}
use Rattle.zbx_types.specs.declared.actions.Action.{Action}
use Rattle.zbx_types.specs.declared.conf.Conf.{Conf}
use Rattle.zbx_types.specs.declared.entries.Rec.{Rec}
use Rattle.escalations.specs.Conditions.{is_matched}
use Rattle.escalations.specs.Messages.{step_records, sending_records}
use Rattle.escalations.specs.Steps.{last_step, step_due}
use Rattle.escalations.specs.Triggers.{trigger_of}
use Rattle.maintenance.specs.Suppression.{is_suppressed}

-- the step of an action that runs next for a problem, where these steps ran and its trigger is suppressed or not: the one
-- behind the last, where it is due, the action matches the problem, and it isn't paused
unfoldable pub next_step : Conf → Bool → List Rec → Rec → Action → ℕ → Option ℕ
next_step conf quiet steps problem action now =
    if is_matched conf action problem && not (action.pause_suppressed && quiet)
    then step_due action now (last_step steps (event_of problem) action.name) else None

-- what a step makes, where there is one
abbrev pub records_at : Conf → Rec → ℕ → Action → Option ℕ → List Rec
records_at conf problem now action None = []
records_at conf problem now action (Some step) = step_records conf problem now action step

-- what the next step of an action makes
unfoldable pub next_records : Conf → Bool → Rec → List Rec → ℕ → Action → List Rec
next_records conf quiet problem steps now action =
    records_at conf problem now action (next_step conf quiet steps problem action now)

-- What the next steps of all actions make, in file order, about a problem of the trigger with an id. Actions pause while
-- this trigger is suppressed for the problem's tags.
unfoldable pub due_records_of : Conf → ℕ → Rec → List Rec → ℕ → List Rec
due_records_of conf trigger problem steps now =
    flat_map (next_records conf (is_suppressed conf trigger (tags_of problem) now) problem steps now) conf.actions

-- what the first steps of all actions make: no step ran
abbrev pub first_records_of : Conf → ℕ → Rec → ℕ → List Rec
first_records_of conf trigger problem now = due_records_of conf trigger problem [] now

-- what the next steps of all actions make, for the trigger that has the names of the problem's trigger and host
abbrev pub due_records : Conf → Rec → List Rec → ℕ → List Rec
due_records conf problem steps now = due_records_of conf (trigger_of conf problem) problem steps now

-- what the first steps of all actions make, for the same trigger
abbrev pub first_records : Conf → Rec → ℕ → List Rec
first_records conf problem now = due_records conf problem [] now

-- what the recovery operations of an action send: nothing where it ran no step for the problem
abbrev pub recovery_records : Conf → Rec → List Rec → ℕ → Action → List Rec
recovery_records conf problem steps now action =
    if is_some (last_step steps (event_of problem) action.name)
    then flat_map (sending_records conf problem now action.name) action.recovery else []

-- what the recovery operations of all actions send, in file order
abbrev pub recovered_records : Conf → Rec → List Rec → ℕ → List Rec
recovered_records conf problem steps now = flat_map (recovery_records conf problem steps now) conf.actions
