-- The records of steps and of recovery operations (the Zabbix 6.0 manual, "Escalations", "Recovery operations").
use Rattle.std.specs.Prelude.{ℕ, List, ◌∷◌, map, flat_map, Option, Some, None}
use Rattle.zbx_types.specs.Records.{event_of}
use Rattle.zbx_types.specs.declared.actions.Action.{Action}
use Rattle.zbx_types.specs.declared.actions.Operation.{Operation}
use Rattle.zbx_types.specs.declared.actions.Sending.{Sending}
use Rattle.zbx_types.specs.declared.conf.Conf.{Conf}
use Rattle.zbx_types.specs.declared.entries.Rec.{Rec}
use Rattle.zbx_types.specs.declared.entries.Rec.TheVariants.{Step, Message}
use Rattle.event_text.specs.Messages.{message_of}
use Rattle.escalations.specs.Steps.{operations_of}

-- a message to a recipient by a step of an action, 0 for its recovery operations, with this subject and body
abbrev pub message_to : Conf → Rec → Option ℕ → List ℕ → ℕ → List ℕ → List ℕ → List ℕ → Rec
message_to conf problem recovered action step subject body recipient =
    Message (event_of problem) action step recipient (message_of conf problem subject recovered) (message_of conf problem body recovered)

-- what an operation sends at a step
abbrev pub operation_records : Conf → Rec → List ℕ → ℕ → Operation → List Rec
operation_records conf problem action step operation =
    map (message_to conf problem None action step operation.subject operation.body) operation.recipients

-- what a step of an action that runs makes: its Step record, then what each of its operations sends
abbrev pub step_records : Conf → Rec → ℕ → Action → ℕ → List Rec
step_records conf problem now action step =
    Step (event_of problem) action.name step now ∷ flat_map (operation_records conf problem action.name step) (operations_of action step)

-- what a recovery operation sends
abbrev pub sending_records : Conf → Rec → ℕ → List ℕ → Sending → List Rec
sending_records conf problem now action sending =
    map (message_to conf problem (Some now) action 0 sending.subject sending.body) sending.recipients
