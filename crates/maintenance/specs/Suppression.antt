-- What maintenances do to problems and to values (the Zabbix 6.0 manual, "Maintenance").
use Rattle.std.specs.Prelude.{◌≡◌, ℕ, ◌/◌, Bool, false, not, ◌&&◌, List, Any, IsSomeAnd}
use Rattle.std.specs.List.{list_any}
use Rattle.zbx_types.specs.Ids.{at_id}
use Rattle.zbx_types.specs.declared.conf.Conf.{Conf}
use Rattle.zbx_types.specs.declared.maintenances.Maintenance.{Maintenance}
use Rattle.zbx_types.specs.declared.triggers.Trigger.{Trigger}
use Rattle.zbx_types.specs.declared.entries.Tag.{Tag}
use Rattle.maintenance.specs.Found.{is_some_that}
use Rattle.maintenance.specs.Force.{IsActive, is_active}
use Rattle.maintenance.specs.Covering.{IsOfHost, IsOfItem, is_of_host, is_of_item}
use Rattle.maintenance.specs.Tags.{IsForTags, is_for_tags}

-- a maintenance is in force, is of the host of some item of the trigger's calls, and is for the tags
abbrev pub Suppresses : Conf → Trigger → List Tag → ℕ → Maintenance → Type 0
Suppresses conf trigger tags second m =
    IsActive conf.utc_offset second m × Any (IsOfItem conf m) trigger.call_items × IsForTags m tags

-- some maintenance suppresses a problem of the trigger with these tags
abbrev pub IsSuppressed : Conf → ℕ → List Tag → ℕ → Type 0
IsSuppressed conf trigger tags now =
    IsSomeAnd (at_id conf.triggers trigger) (λ found. Any (Suppresses conf found tags (now / 1000000000)) conf.maintenances)

-- a maintenance without data collection is in force and is of the host
abbrev pub KeepsOut : Conf → ℕ → ℕ → Maintenance → Type 0
KeepsOut conf host second m = (m.collect ≡ false) × IsActive conf.utc_offset second m × IsOfHost conf m host

-- no maintenance keeps the host's values out
abbrev pub Collects : Conf → ℕ → ℕ → Type 0
Collects conf host now = ¬ (Any (KeepsOut conf host (now / 1000000000)) conf.maintenances)

-- The same as tests.

-- a maintenance is in force, is of the host of some item of the trigger's calls, and is for the tags
abbrev pub suppresses : Conf → Trigger → List Tag → ℕ → Maintenance → Bool
suppresses conf trigger tags second m =
    is_active conf.utc_offset second m && list_any (is_of_item conf m) trigger.call_items && is_for_tags m tags

-- some maintenance suppresses a problem of the trigger with these tags
unfoldable pub is_suppressed : Conf → ℕ → List Tag → ℕ → Bool
is_suppressed conf trigger tags now =
    is_some_that (λ found. list_any (suppresses conf found tags (now / 1000000000)) conf.maintenances) (at_id conf.triggers trigger)

-- a maintenance without data collection is in force and is of the host
abbrev pub keeps_out : Conf → ℕ → ℕ → Maintenance → Bool
keeps_out conf host second m = not m.collect && is_active conf.utc_offset second m && is_of_host conf m host

-- no maintenance keeps the host's values out
unfoldable pub is_collected : Conf → ℕ → ℕ → Bool
is_collected conf host now = not (list_any (keeps_out conf host (now / 1000000000)) conf.maintenances)
