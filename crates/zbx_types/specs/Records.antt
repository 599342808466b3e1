-- What records are about.
use Rattle.std.specs.Prelude.{ℕ, ◌==◌, Bool, ◌&&◌, List, []}
use Rattle.zbx_types.specs.declared.entries.EventId.{EventId}
use Rattle.zbx_types.specs.declared.entries.Rec.{Rec}
use Rattle.zbx_types.specs.declared.entries.Rec.TheVariants.{Failure, Problem, Recovery, Step, Message}
use Rattle.zbx_types.specs.declared.entries.Tag.{Tag}

-- two events are the same
abbrev pub same_event : EventId → EventId → Bool
same_event a b = (a.number == b.number) && (a.trigger == b.trigger)

-- the event that a record is about; of a failure its entry's number, and no trigger
abbrev pub event_of : Rec → EventId
event_of (Failure number host key why) = record { number = number; trigger = 0 }
event_of (Problem event now severity suppressed host trigger name tags) = event
event_of (Recovery event by now cause) = event
event_of (Step event action step now) = event
event_of (Message event action step recipient subject body) = event

-- the tags of a problem; other records have none
abbrev pub tags_of : Rec → List Tag
tags_of (Problem event now severity suppressed host trigger name tags) = tags
tags_of (Failure number host key why) = []
tags_of (Recovery event by now cause) = []
tags_of (Step event action step now) = []
tags_of (Message event action step recipient subject body) = []

-- the host of a problem, by name; other records are of none
abbrev pub host_of : Rec → List ℕ
host_of (Problem event now severity suppressed host trigger name tags) = host
host_of (Failure number host key why) = []
host_of (Recovery event by now cause) = []
host_of (Step event action step now) = []
host_of (Message event action step recipient subject body) = []

-- the trigger of a problem, by name; other records are of none
abbrev pub trigger_name_of : Rec → List ℕ
trigger_name_of (Problem event now severity suppressed host trigger name tags) = trigger
trigger_name_of (Failure number host key why) = []
trigger_name_of (Recovery event by now cause) = []
trigger_name_of (Step event action step now) = []
trigger_name_of (Message event action step recipient subject body) = []
