-- Which items take values, and from whom.
use Rattle.std.specs.Prelude.{Bool, true, false, ◌&&◌, Option, Some, None}
use Rattle.zbx_types.specs.declared.items.Item.{Item}
use Rattle.zbx_types.specs.declared.items.ItemKind.{ItemKind}
use Rattle.zbx_types.specs.declared.items.ItemKind.TheVariants.{Trapper, Dependent, Active}

-- senders may send values of this kind of item
abbrev pub is_trapper_kind : ItemKind → Bool
is_trapper_kind Trapper = true
is_trapper_kind Dependent = false
is_trapper_kind Active = false

-- there is an item, and senders may send values of its kind
abbrev pub is_trapper_item : Option Item → Bool
is_trapper_item None = false
is_trapper_item (Some item) = is_trapper_kind item.kind

-- values of this kind of item are received, and not made of those of a master item
abbrev pub is_received_kind : ItemKind → Bool
is_received_kind Trapper = true
is_received_kind Dependent = false
is_received_kind Active = true

-- there is an item, and values of its kind are received
abbrev pub is_received_item : Option Item → Bool
is_received_item None = false
is_received_item (Some item) = is_received_kind item.kind

-- an entry may bring a value for the item
abbrev pub takes_values : Item → Bool
takes_values item = is_received_kind item.kind && item.enabled
