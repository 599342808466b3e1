-- The names of hosts' items and triggers, as the code looks them up.
use Rattle.std.specs.Prelude.{ℕ, Bool, ◌&&◌, ◌==◌, List, map}
use Rattle.std.specs.Str.{bytes_eq}
use Rattle.std.specs.List.{list_any}
use Rattle.zbx_types.specs.declared.items.Item.{Item}
use Rattle.zbx_types.specs.declared.triggers.Trigger.{Trigger}

-- the name of an item or a trigger, with the id of its host
pub record Named : Type 0 where
  pub host : ℕ
  pub name : List ℕ

-- this name, with the id of its host
abbrev pub named : ℕ → List ℕ → Named
named host name = record { host = host; name = name }

-- it is this name of this host
abbrev pub is_named : ℕ → List ℕ → Named → Bool
is_named host name n = (n.host == host) && bytes_eq n.name name

-- this name of this host is among them
abbrev pub has_named : List Named → ℕ → List ℕ → Bool
has_named names host name = list_any (is_named host name) names

-- the item is this host's and has this key
abbrev pub is_keyed : ℕ → List ℕ → Item → Bool
is_keyed host key i = (i.host == host) && bytes_eq i.key key

-- the name of an item: its key
abbrev pub named_item : Item → Named
named_item i = named i.host i.key

-- the names of items
abbrev pub named_items : List Item → List Named
named_items items = map named_item items

-- the name of a trigger, as it is written
abbrev pub named_trigger : Trigger → Named
named_trigger t = named t.host t.name

-- the names of triggers
abbrev pub named_triggers : List Trigger → List Named
named_triggers triggers = map named_trigger triggers
