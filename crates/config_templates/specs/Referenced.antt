-- Hosts and items that expressions name.
use Rattle.std.specs.Prelude.{ℕ, ◌+◌, ◌==◌, Bool, ◌&&◌, List, position, slice_get, Option, Some, None, option_map, option_and_then, if◌then◌else◌}
use Rattle.std.specs.List.{list_any}
use Rattle.std.specs.Str.{bytes_eq}
use Rattle.zbx_types.specs.Operators.{is_dated}
use Rattle.zbx_types.specs.declared.items.Item.{Item}
use Rattle.zbx_types.specs.declared.items.ValueType.{ValueType}
use Rattle.zbx_types.specs.declared.calls.Call.{Call}
use Rattle.config_read.specs.declared.raw.RawHost.{RawHost}
use Rattle.config_read.specs.declared.raw.RawConf.{RawConf}
use Rattle.host_layout.specs.Hosts.{Owner}

-- a host that an expression names: its id and its name
pub record NamedHost : Type 0 where
  pub id : ℕ
  pub name : List ℕ

-- a host as a name that expressions know
abbrev pub host_at : List RawHost → ℕ → Option NamedHost
host_at hosts place = option_map (λ h. record { id = place + 1; name = h.name }) (slice_get hosts place)

-- the host with a name
abbrev pub host_named : List RawHost → List ℕ → Option NamedHost
host_named hosts name = option_and_then (host_at hosts) (position (λ h. bytes_eq h.name name) hosts)

-- the host that a name in an expression means: the own host by its name and by those of its templates, else the host with the name
unfoldable pub referenced : RawConf → Owner → List ℕ → Option NamedHost
referenced raw owner name =
    if list_any (λ s. bytes_eq s.body.name name) owner.sources then Some (record { id = owner.id; name = owner.name }) else host_named raw.hosts name

-- an item that an expression names: its id and its type
pub record NamedItem : Type 0 where
  pub id : ℕ
  pub value_type : ValueType

-- the item of a host with a key
unfoldable pub item_named : List Item → ℕ → List ℕ → Option NamedItem
item_named items host key = option_and_then (λ place. option_map (λ i. record { id = place + 1; value_type = i.value_type }) (slice_get items place)) (position (λ i. (i.host == host) && bytes_eq i.key key) items)

-- the item that a call looks at: its host's name, its id and its type
pub record Looked : Type 0 where
  pub host : List ℕ
  pub id : ℕ
  pub value_type : ValueType

-- an item of a host
abbrev pub looked : NamedHost → NamedItem → Looked
looked host item = record { host = host.name; id = item.id; value_type = item.value_type }

-- the item that a call of a function looks at, where there is one
unfoldable pub looked_at : RawConf → List Item → Owner → Call → Option Looked
looked_at raw items owner call =
    if is_dated call.fun then None
    else option_and_then (λ host. option_map (looked host) (item_named items host.id call.key)) (referenced raw owner call.host)
