-- Which hosts a maintenance is of (the Zabbix 6.0 manual, "Maintenance", hosts and groups).
use Rattle.std.specs.Prelude.{ℕ, ◌⊎◌, Bool, ◌||◌, List, bytes_eq, Contains, Any, IsSomeAnd}
use Rattle.std.specs.List.{list_any}
use Rattle.zbx_types.specs.Ids.{at_id}
use Rattle.zbx_types.specs.declared.conf.Conf.{Conf}
use Rattle.zbx_types.specs.declared.conf.Host.{Host}
use Rattle.zbx_types.specs.declared.maintenances.Maintenance.{Maintenance}
use Rattle.maintenance.specs.Found.{is_some_that}

-- it names the host, or one of the groups that the host is in
abbrev pub IsOf : Maintenance → Host → Type 0
IsOf m host = Contains m.hosts host.name ⊎ Any (Contains m.groups) host.groups

-- it is of the host with an id
abbrev pub IsOfHost : Conf → Maintenance → ℕ → Type 0
IsOfHost conf m host = IsSomeAnd (at_id conf.hosts host) (IsOf m)

-- it is of the host of the item with an id
abbrev pub IsOfItem : Conf → Maintenance → ℕ → Type 0
IsOfItem conf m item = IsSomeAnd (at_id conf.items item) (λ found. IsOfHost conf m found.host)

-- The same as tests.

-- a name is among some
abbrev pub is_among : List (List ℕ) → List ℕ → Bool
is_among names name = list_any (λ other. bytes_eq other name) names

-- it names the host, or one of the groups that the host is in
abbrev pub is_of : Maintenance → Host → Bool
is_of m host = is_among m.hosts host.name || list_any (is_among m.groups) host.groups

-- it is of the host with an id
abbrev pub is_of_host : Conf → Maintenance → ℕ → Bool
is_of_host conf m host = is_some_that (is_of m) (at_id conf.hosts host)

-- it is of the host of the item with an id
abbrev pub is_of_item : Conf → Maintenance → ℕ → Bool
is_of_item conf m item = is_some_that (λ found. is_of_host conf m found.host) (at_id conf.items item)
