-- The hosts that maintenances and actions name.
use Rattle.std.specs.Prelude.{ℕ, List, [], ◌∷◌, ◌++◌, flat_map, position, is_some, Option, Some, None, if◌then◌else◌, codes}
use Rattle.std.specs.Fmt.{decimal}
use Rattle.std.specs.Str.{bytes_eq}
use Rattle.zbx_types.specs.declared.causes.Cause.{Cause}
use Rattle.zbx_types.specs.declared.causes.Cause.TheVariants.{UnknownName}
use Rattle.zbx_types.specs.declared.maintenances.Maintenance.{Maintenance}
use Rattle.zbx_types.specs.declared.actions.Action.{Action}
use Rattle.zbx_types.specs.declared.actions.ActionCond.{ActionCond}
use Rattle.zbx_types.specs.declared.actions.ActionCond.TheVariants as conditions
use Rattle.json_form.specs.Faults.{Fault}
use Rattle.config_read.specs.declared.raw.RawHost.{RawHost}
use Rattle.config_read.specs.declared.raw.RawConf.{RawConf}
use Rattle.host_layout.specs.Places.{Placed, placed, first_fault}

-- no host has the name
abbrev pub unknown_host : List RawHost → List ℕ → Option Cause
unknown_host hosts name = if is_some (position (λ h. bytes_eq h.name name) hosts) then None else Some UnknownName

-- a maintenance at its place
abbrev pub maintenance_at : ℕ → Maintenance → Placed Maintenance
maintenance_at place m = record { place = place; path = codes "/maintenances" ++ codes "/" ++ decimal place; body = m }

-- an action at its place
abbrev pub action_at : ℕ → Action → Placed Action
action_at place a = record { place = place; path = codes "/actions" ++ codes "/" ++ decimal place; body = a }

-- the hosts that a maintenance names
abbrev pub maintained : Placed Maintenance → List (Placed (List ℕ))
maintained m = placed (m.path ++ codes "/hosts") m.body.hosts

-- the host that a condition names, where it is one on the host: by its place and its pointer
abbrev pub host_of : ℕ → List ℕ → ActionCond → List (Placed (List ℕ))
host_of at path (conditions.Host host) = record { place = at; path = path ++ codes "/host"; body = host } ∷ []
host_of at path (conditions.Severity op value) = []
host_of at path (conditions.Group group) = []
host_of at path (conditions.TriggerName text) = []
host_of at path (conditions.Tag tag) = []
host_of at path (conditions.TagValue test) = []
host_of at path conditions.Suppressed = []
host_of at path conditions.NotSuppressed = []

-- the host that a condition of an action names
abbrev pub host_of_condition : Placed ActionCond → List (Placed (List ℕ))
host_of_condition c = host_of c.place c.path c.body

-- the hosts that an action names
abbrev pub acted : Placed Action → List (Placed (List ℕ))
acted a = flat_map host_of_condition (placed (a.path ++ codes "/conditions") a.body.conditions)

-- the hosts that all maintenances name
abbrev pub all_maintained : RawConf → List (Placed (List ℕ))
all_maintained raw = flat_map maintained (placed (codes "/maintenances") raw.maintenances)

-- the hosts that all actions name
abbrev pub all_acted : RawConf → List (Placed (List ℕ))
all_acted raw = flat_map acted (placed (codes "/actions") raw.actions)

-- the first host that a maintenance or an action names and that isn't there
unfoldable pub unknown_hosts : RawConf → Option Fault
unknown_hosts raw = first_fault (unknown_host raw.hosts) (all_maintained raw ++ all_acted raw)
