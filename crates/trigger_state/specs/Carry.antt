-- What a configuration that follows another one leaves of the open problems.
use Rattle.std.specs.Prelude.{ℕ, Bool, false, not, List, [], map, filter, flat_map, Option, Some, None, option_and_then}
use Rattle.std.specs.Option.{option_map_or}
use Rattle.std.specs.Cmp.Lexicographic.{pointwise}
use Rattle.std.specs.Str.{bytes_eq}
use Rattle.zbx_types.specs.Hosts.{host_name}
use Rattle.zbx_types.specs.Ids.{at_id, ids_from}
use Rattle.zbx_types.specs.Records.{tags_of, host_of, trigger_name_of}
use Rattle.zbx_types.specs.declared.conf.Conf.{Conf}
use Rattle.zbx_types.specs.declared.entries.EventId.{EventId}
use Rattle.zbx_types.specs.declared.entries.Rec.{Rec}
use Rattle.zbx_types.specs.declared.entries.Tag.{Tag}
use Rattle.zbx_types.specs.declared.triggers.Trigger.{Trigger}
use Rattle.trigger_state.specs.Order.{in_making}
use Rattle.trigger_state.specs.Problems.{event_in}
use Rattle.trigger_state.specs.Stages.{Origin, id_named}
use Rattle.trigger_state.specs.declared.problems.Open.{Open}

-- two lists of tags have, in order, the same names
abbrev pub same_names : List Tag → List Tag → Bool
same_names one other = pointwise (λ a b. bytes_eq a.tag b.tag) one other

-- the first trigger of a configuration that has the names of a problem's host and trigger, where there is one
abbrev pub trigger_for : Conf → Rec → Option Trigger
trigger_for conf problem = option_and_then (at_id conf.triggers) (id_named conf (host_of problem) (trigger_name_of problem))

-- a problem is one of this trigger, where there is one: it has, in order, the names of its tags
abbrev pub is_one_of : Rec → Option Trigger → Bool
is_one_of problem None = false
is_one_of problem (Some trigger) = same_names (tags_of problem) trigger.tags

-- an open problem is gone in a configuration: no trigger has the names of its host and its trigger, or the one that has them
-- has other tags by name or in another order
abbrev pub is_gone : Conf → Open → Bool
is_gone conf o = not (is_one_of o.problem (trigger_for conf o.problem))

-- where an open problem comes from, as it tells itself
abbrev pub origin_in : Open → Origin
origin_in o =
    record { event = event_in o; host = host_of o.problem; trigger = trigger_name_of o.problem; rank = o.rank }

-- the open problems that a trigger of the new configuration takes over: those of the old one's trigger with the names of
-- its host and its own
abbrev pub taken_over : Conf → Conf → (ℕ → List Open) → Trigger → List Open
taken_over old new opens trigger =
    option_map_or opens (id_named old (host_name (at_id new.hosts trigger.host)) trigger.name) []

-- and those of them that aren't gone
abbrev pub carried_to : Conf → Conf → (ℕ → List Open) → Trigger → List Open
carried_to old new opens trigger = filter (λ o. not (is_gone new o)) (taken_over old new opens trigger)

-- the open problems that the new configuration leaves of its trigger with an id
abbrev pub carried : Conf → Conf → (ℕ → List Open) → ℕ → List Open
carried old new opens id = option_map_or (carried_to old new opens) (at_id new.triggers id) []

-- the events of open problems that are gone in a configuration, in the order of making
abbrev pub gone_of : Conf → List Open → List EventId
gone_of conf os = map event_in (filter (is_gone conf) (in_making os))

-- the open problems of all triggers of a configuration, one trigger after another in the order of ids
abbrev pub all_open : Conf → (ℕ → List Open) → List Open
all_open conf opens = flat_map opens (ids_from 1 conf.triggers)
