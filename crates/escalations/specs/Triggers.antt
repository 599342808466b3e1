-- The triggers of problems, and whether they are suppressed.
use Rattle.std.specs.Prelude.{ℕ, ◌+◌, Bool, false, ◌&&◌, List, bytes_eq, Option, Some, None}
use Rattle.std.specs.List.{list_any, position_from}
use Rattle.zbx_types.specs.Ids.{at_id}
use Rattle.zbx_types.specs.Records.{host_of, trigger_name_of}
use Rattle.zbx_types.specs.declared.actions.Action.{Action}
use Rattle.zbx_types.specs.declared.conf.Conf.{Conf}
use Rattle.zbx_types.specs.declared.conf.Host.{Host}
use Rattle.zbx_types.specs.declared.entries.Rec.{Rec}
use Rattle.zbx_types.specs.declared.triggers.Trigger.{Trigger}
use Rattle.escalations.specs.Conditions.{is_matched}

-- a host is there and has this name
abbrev pub is_named : List ℕ → Option Host → Bool
is_named name None = false
is_named name (Some host) = bytes_eq host.name name

-- a trigger has the name of the problem's trigger, and its host that of the problem's host
abbrev pub is_trigger_of : Conf → Rec → Trigger → Bool
is_trigger_of conf problem trigger =
    bytes_eq trigger.name (trigger_name_of problem) && is_named (host_of problem) (at_id conf.hosts trigger.host)

-- the id of what stands at a place, or 0
abbrev pub id_at : Option ℕ → ℕ
id_at None = 0
id_at (Some place) = place + 1

-- the id of a problem's trigger: of the first that has its name and its host's, or 0 where there is none
abbrev pub trigger_of : Conf → Rec → ℕ
trigger_of conf problem = id_at (position_from (is_trigger_of conf problem) 0 conf.triggers)

-- some of the actions matches a problem, and pauses where it is suppressed
abbrev pub some_pauses : Conf → Rec → List Action → Bool
some_pauses conf problem actions = list_any (λ action. action.pause_suppressed && is_matched conf action problem) actions
