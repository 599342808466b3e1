-- Masters of dependent items (the Zabbix 6.0 manual, "Dependent items").
use Rattle.std.specs.Prelude.{ℕ, zero, suc, ◌+◌, ◌-◌, ◌==◌, nat_le, Bool, not, ◌&&◌, List, [], ◌∷◌, ◌++◌}
use Rattle.std.specs.Prelude.{length, take, filter, map, position, find, Option, Some, None, option_map, option_and_then, if◌then◌else◌, Result, Ok, codes}
use Rattle.std.specs.Option.{option_map_or}
use Rattle.zbx_types.specs.Ids.{at_id, ids_from}
use Rattle.zbx_types.specs.Items.{is_received_kind}
use Rattle.zbx_types.specs.Limits.{longest_key}
use Rattle.zbx_types.specs.declared.items.Item.{Item}
use Rattle.zbx_types.specs.declared.causes.Cause.{Cause}
use Rattle.zbx_types.specs.declared.causes.Cause.TheVariants.{UnknownName, Cycle, TooDeep, TooMany}
use Rattle.json_form.specs.Faults.{Fault}
use Rattle.dependency_graph.specs.Cycles.{first_on_cycle}
use Rattle.macro_text.specs.Expanded.{expanded}
use Rattle.config_read.specs.declared.raw.RawConf.{RawConf}
use Rattle.host_layout.specs.Places.{Flaw, refuse, unless, each_list, ◌>>=◌}
use Rattle.host_layout.specs.Names.{Named, is_named, named_items}
use Rattle.host_layout.specs.OwnedItems.{OwnedItem, owned_items, adding, with_each}

-- the most dependent items of one master
abbrev pub most_dependents : ℕ
most_dependents = 1000

-- the most levels of dependent items under an item whose values are received
abbrev pub most_levels : ℕ
most_levels = 3

-- the pointer to the master of an item
abbrev pub master_path : OwnedItem → List ℕ
master_path o = o.item.path ++ codes "/master"

-- the id of what stands at a place, or the refusal of a name that nothing has
abbrev pub master_found : List ℕ → Option ℕ → Result ℕ Flaw
master_found path None = refuse path UnknownName
master_found path (Some place) = Ok (place + 1)

-- the place of the item of a host with a key, among items with these names; no text longer than a key is one
abbrev pub key_place : List Named → ℕ → List ℕ → Option ℕ
key_place names host key = if nat_le (length key) longest_key then position (is_named host key) names else None

-- the id of an item's master among items with these names: of a dependent item the one of its own host that has the key
-- which it names; 0 of an item whose values are received
unfoldable pub master_of : List Named → OwnedItem → Result ℕ Flaw
master_of names o =
    if is_received_kind o.item.body.kind then Ok 0
    else master_found (master_path o) (key_place names o.host (expanded o.macros o.item.body.master))

-- the ids of the masters of all items
abbrev pub masters_of : RawConf → List Item → Result (List ℕ) Flaw
masters_of raw items = each_list (adding (master_of (named_items items))) [] (owned_items raw)

-- an item with its master
abbrev pub with_master : Item → ℕ → Item
with_master i master = record { host = i.host; key = i.key; kind = i.kind; master = master; value_type = i.value_type; enabled = i.enabled; steps = i.steps; delay = i.delay }

-- what is wrong at the master of the item with an id
abbrev pub master_fault : RawConf → Cause → ℕ → Option Fault
master_fault raw cause id = option_map (λ o. record { path = master_path o; cause = cause }) (at_id (owned_items raw) id)

-- the first item of which a test holds, refused at its master
abbrev pub first_master : RawConf → List Item → Cause → (ℕ → Bool) → Option Fault
first_master raw items cause test = option_and_then (master_fault raw cause) (find test (ids_from 1 items))

-- the master of the item with an id; 0 where it has none
abbrev pub master_at : List Item → ℕ → ℕ
master_at items id = option_map_or (λ i. i.master) (at_id items id) 0

-- the item so many levels above one; 0 where there is none
abbrev pub above : List Item → ℕ → ℕ → ℕ
above items zero id = id
above items (suc levels) id = above items levels (master_at items id)

-- the item has more than so many levels of items above it
abbrev pub is_too_deep : List Item → ℕ → Bool
is_too_deep items id = not (above items (most_levels + 1) id == 0)

-- how many items have a master
abbrev pub dependents : ℕ → List Item → ℕ
dependents master items = length (filter (λ i. i.master == master) items)

-- a master has as many dependent items as one may have
abbrev pub is_full : ℕ → List Item → Bool
is_full master items = not (master == 0) && nat_le most_dependents (dependents master items)

-- the item's master is full of those before it
abbrev pub is_crowded : List Item → ℕ → Bool
is_crowded items id = is_full (master_at items id) (take (id - 1) items)

-- the place of the item with an id, of so many items
abbrev pub place_of : ℕ → ℕ → List ℕ
place_of size id = if nat_le 1 id && nat_le id size then (id - 1) ∷ [] else []

-- for each item the place of its master
abbrev pub master_links : List Item → List (List ℕ)
master_links items = map (λ i. place_of (length items) i.master) items

-- the first item that lies on a cycle, refused at its master
abbrev pub first_cycle : RawConf → List Item → Option Fault
first_cycle raw items = option_and_then (λ link. master_fault raw Cycle (link.from + 1)) (first_on_cycle (master_links items))

-- the items, where their masters are in order
abbrev pub ordered : RawConf → List Item → Result (List Item) Flaw
ordered raw items = do
  items ← unless items (first_cycle raw items)
  items ← unless items (first_master raw items TooDeep (is_too_deep items))
  unless items (first_master raw items TooMany (is_crowded items))

-- the items with their masters
unfoldable pub mastered : RawConf → List Item → Result (List Item) Flaw
mastered raw items = masters_of raw items >>= λ masters. ordered raw (with_each with_master items masters)
