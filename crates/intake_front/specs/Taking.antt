-- What becomes of an asked value.
use Rattle.std.specs.Prelude.{◌≡◌, ℕ, nat_le, min, Bool, true, false, not, ◌&&◌, List, [], ◌∷◌, length, Option, Some, None, Result, Ok, Err, if◌then◌else◌, option_and_then}
use Rattle.std.specs.List.{flat_map}
use Rattle.zbx_types.specs.Ids.{at_id}
use Rattle.zbx_types.specs.Items.{is_trapper_item}
use Rattle.zbx_types.specs.Limits.{longest_value}
use Rattle.zbx_types.specs.declared.conf.Conf.{Conf}
use Rattle.zbx_types.specs.declared.conf.Host.{Host}
use Rattle.zbx_types.specs.declared.items.Item.{Item}
use Rattle.zbx_types.specs.declared.entries.Entry.{Entry}
use Rattle.zbx_types.specs.declared.entries.Entry.TheVariants.{Value}
use Rattle.agent_json.specs.Checks.{is_active_kind}
use Rattle.agent_json.specs.declared.request.AgentAsked.{AgentAsked}
use Rattle.sender_json.specs.declared.asked.Asked.{Asked}
use Rattle.sender_json.specs.declared.asked.Clock.{Clock}
use Rattle.sender_json.specs.declared.asked.Clock.TheVariants as clock
use Rattle.maintenance.specs.Suppression.{is_collected}
use Rattle.conf_index.specs.Names.{host_named, item_keyed}
use Rattle.intake_front.specs.declared.gathering.Taken.{Taken}
use Rattle.intake_front.specs.declared.refusal.ValueRefusal.{ValueRefusal}
use Rattle.intake_front.specs.declared.refusal.ValueRefusal.TheVariants.{UnknownHost, UnknownKey, Disabled, NotTrapper, NotActive}
use Rattle.intake_front.specs.declared.refusal.ValueRefusal.TheVariants.{InMaintenance, BadValue, BadClock, Unsupported}
use Rattle.intake_front.specs.declared.origin.Origin.{Origin}
use Rattle.intake_front.specs.declared.origin.Origin.TheVariants.{Sender, Agent}

-- there is a host, and it is enabled
abbrev pub is_enabled_host : Option Host → Bool
is_enabled_host None = false
is_enabled_host (Some host) = host.enabled

-- there is an item, and it is enabled
abbrev pub is_enabled_item : Option Item → Bool
is_enabled_item None = false
is_enabled_item (Some item) = item.enabled

-- there is an item, and agents may bring its values
abbrev pub is_active_item : Option Item → Bool
is_active_item None = false
is_active_item (Some item) = is_active_kind item.kind

-- an item's values may come from there: a sender sends those of trapper items, an agent brings those of active ones
abbrev pub comes_from : Origin → Option Item → Bool
comes_from Sender item = is_trapper_item item
comes_from (Agent unsupported) item = is_active_item item

-- why a value is refused whose item takes none from there
abbrev pub not_from : Origin → ValueRefusal
not_from Sender = NotTrapper
not_from (Agent unsupported) = NotActive

-- an agent says of its value that it doesn't support the item
abbrev pub is_unsupported : Origin → Bool
is_unsupported Sender = false
is_unsupported (Agent unsupported) = unsupported

-- at this moment no maintenance keeps the values of any host out
abbrev pub AllCollected : Conf → ℕ → Type 0
AllCollected conf now = (host : ℕ) → is_collected conf host now ≡ true

-- What an asked value becomes: an entry, or the first cause for which it is refused, in the order host, key, whether
-- both are enabled, whether the item takes values from there, whether a maintenance keeps the host's values out, value,
-- clock, whether the agent supports the item. Below, the last test but one stands first.

-- by its clock: a value's time is its clock, or the moment at which it is taken, and never later than that
unfoldable pub clocked : ℕ → ℕ → List ℕ → Clock → Result Entry ValueRefusal
clocked now item value clock.Absent = Ok (Value now item now value)
clocked now item value clock.Bad = Err BadClock
clocked now item value (clock.At time) = Ok (Value now item (min time now) value)

-- by its value, which has at most 65535 bytes
unfoldable pub valued : ℕ → ℕ → Clock → Option (List ℕ) → Result Entry ValueRefusal
valued now item c None = Err BadValue
valued now item c (Some value) = if nat_le (length value) longest_value then clocked now item value c else Err BadValue

-- by the item that its key names, and by the maintenances at the moment at which it is taken
unfoldable pub keyed : Conf → ℕ → Origin → Asked → ℕ → Option ℕ → Result Entry ValueRefusal
keyed conf now origin asked host None = Err UnknownKey
keyed conf now origin asked host (Some item) =
    if not (is_enabled_host (at_id conf.hosts host) && is_enabled_item (at_id conf.items item)) then Err Disabled
    else if not (comes_from origin (at_id conf.items item)) then Err (not_from origin)
    else if not (is_collected conf host now) then Err InMaintenance
    else valued now item asked.clock asked.value

-- a value for the item that takes it, or why none takes it
abbrev pub taken_for : ℕ → Asked → Result ℕ ValueRefusal → Result Entry ValueRefusal
taken_for now asked (Ok item) = valued now item asked.clock asked.value
taken_for now asked (Err cause) = Err cause

-- by the host that it names
unfoldable pub hosted : Conf → ℕ → Origin → Asked → Option ℕ → Result Entry ValueRefusal
hosted conf now origin asked None = Err UnknownHost
hosted conf now origin asked (Some host) = keyed conf now origin asked host (option_and_then (item_keyed conf host) asked.key)

-- by whether an agent supports the item
abbrev pub supported : Bool → Result Entry ValueRefusal → Result Entry ValueRefusal
supported unsupported (Ok entry) = if unsupported then Err Unsupported else Ok entry
supported unsupported (Err cause) = Err cause

-- what an asked value becomes at a moment
unfoldable pub taken_of : Conf → ℕ → Origin → Asked → Result Entry ValueRefusal
taken_of conf now origin asked =
    supported (is_unsupported origin) (hosted conf now origin asked (option_and_then (host_named conf) asked.host))

-- the entry of a value that is taken
abbrev pub entry_in : Result Entry ValueRefusal → List Entry
entry_in (Ok entry) = entry ∷ []
entry_in (Err cause) = []

-- the entries of the values that are taken, in their order, where it is said what becomes of each
abbrev pub group_by : {A : Type 0} → (A → Result Entry ValueRefusal) → List A → List Entry
group_by taken all = flat_map (λ one. entry_in (taken one)) all

-- what is taken of values, where it is said what becomes of each: the entries, and of how many values
abbrev pub taken_by : {A : Type 0} → (A → Result Entry ValueRefusal) → List A → Taken
taken_by taken all = record { group = group_by taken all; total = length all }

-- the values of a sender that are taken: one group
abbrev pub group_of : Conf → ℕ → List Asked → List Entry
group_of conf now = group_by (taken_of conf now Sender)

-- what is taken of the values of a sender
abbrev pub values_taken : Conf → ℕ → List Asked → Taken
values_taken conf now = taken_by (taken_of conf now Sender)

-- what an element of agent data becomes at a moment
abbrev pub agent_taken_of : Conf → ℕ → AgentAsked → Result Entry ValueRefusal
agent_taken_of conf now one = taken_of conf now (Agent one.unsupported) one.asked

-- the values of an agent that are taken: one group
abbrev pub agent_group_of : Conf → ℕ → List AgentAsked → List Entry
agent_group_of conf now = group_by (agent_taken_of conf now)

-- what is taken of the values of an agent
abbrev pub data_taken : Conf → ℕ → List AgentAsked → Taken
data_taken conf now = taken_by (agent_taken_of conf now)

-- by what values are taken: the configuration, and the moment
pub record TakenBy : Type 0 where
  pub conf : Conf
  pub moment : ℕ
