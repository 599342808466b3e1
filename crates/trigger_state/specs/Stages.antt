-- What is in force: a configuration, and where events come from.
use Rattle.std.specs.Prelude.{◌≡◌, ℕ, Bool, ◌&&◌, List, [], Option, Some, None}
use Rattle.std.specs.List.{find, position_from}
use Rattle.std.specs.Option.{unwrap_or}
use Rattle.std.specs.Str.{bytes_eq}
use Rattle.zbx_types.specs.Hosts.{host_name}
use Rattle.zbx_types.specs.Ids.{at_id}
use Rattle.zbx_types.specs.Masters.{depth_of}
use Rattle.zbx_types.specs.Records.{same_event}
use Rattle.zbx_types.specs.declared.conf.Conf.{Conf}
use Rattle.zbx_types.specs.declared.entries.EventId.{EventId}
use Rattle.zbx_types.specs.declared.triggers.Trigger.{Trigger}
pub use Rattle.trigger_state.specs.declared.stage.Origin.{Origin}

-- what is in force at an entry: a configuration, and the origins of the events of others
pub record Stage : Type 0 where
  pub conf : Conf
  pub origins : List Origin

-- the origin of an event, where it is told
abbrev pub origin_of : List Origin → EventId → Option Origin
origin_of origins event = find (λ o. same_event o.event event) origins

-- a trigger has these names of its host and its own
abbrev pub has_names : Conf → List ℕ → List ℕ → Trigger → Bool
has_names conf host name trigger =
    bytes_eq (host_name (at_id conf.hosts trigger.host)) host && bytes_eq trigger.name name

-- the id of the first trigger with these names of its host and its own, where there is one
abbrev pub id_named : Conf → List ℕ → List ℕ → Option ℕ
id_named conf host name = position_from (has_names conf host name) 1 conf.triggers

-- the id of the trigger with the names of an origin, 0 where there is none
unfoldable pub trigger_named : Conf → Origin → ℕ
trigger_named conf origin = unwrap_or (id_named conf origin.host origin.trigger) 0

-- the id of an event's trigger, and its rank, where this is its origin: an event of the configuration itself has none
abbrev pub home_by : Conf → EventId → Option Origin → ℕ
home_by conf event None = event.trigger
home_by conf event (Some origin) = trigger_named conf origin

abbrev pub rank_by : Conf → EventId → Option Origin → ℕ
rank_by conf event None = depth_of conf event.trigger
rank_by conf event (Some origin) = origin.rank

-- the id that the trigger of an event has in the configuration in force
abbrev pub home : Stage → EventId → ℕ
home stage event = home_by stage.conf event (origin_of stage.origins event)

-- the rank of an event among those of its entry
abbrev pub rank_of : Stage → EventId → ℕ
rank_of stage event = rank_by stage.conf event (origin_of stage.origins event)

-- the triggers of the events of the entry with a number have the ids in them: none of these events is of another
-- configuration
abbrev pub OwnsEvents : Stage → ℕ → Type 0
OwnsEvents stage number = (id : ℕ) → home stage (record { number = number; trigger = id }) ≡ id

-- what is in force while a configuration is the only one
abbrev pub first_stage : Conf → Stage
first_stage conf = record { conf = conf; origins = [] }
