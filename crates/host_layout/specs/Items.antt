-- The items of the flat configuration.
use Rattle.std.specs.Prelude.{ℕ, zero, suc, ◌+◌, ◌==◌, nat_le, Bool, not, ◌&&◌, List, [], ◌++◌, length, take, flat_map, if◌then◌else◌, Result, Ok, codes}
use Rattle.std.specs.List.{list_any}
use Rattle.std.specs.Str.{bytes_eq}
use Rattle.zbx_types.specs.declared.items.Item.{Item}
use Rattle.zbx_types.specs.declared.causes.Cause.TheVariants.{BadKey, Duplicate, TooMany}
use Rattle.zbx_types.specs.Limits.{longest_key}
use Rattle.item_key.specs.Machine.{ends_at, place_of}
use Rattle.macro_text.specs.Expanded.{expanded}
use Rattle.macro_text.specs.declared.macros.Macro.{Macro}
use Rattle.config_read.specs.declared.raw.RawItem.{RawItem}
use Rattle.config_read.specs.declared.raw.RawHost.{RawHost}
use Rattle.config_read.specs.declared.raw.RawConf.{RawConf}
use Rattle.host_layout.specs.Places.{Flaw, Placed, placed, refuse, each, each_list}
use Rattle.host_layout.specs.Links.{sources_of, placed_hosts}
use Rattle.host_layout.specs.Macros.{macros_of}

-- the most items of all hosts
abbrev pub most_items : ℕ
most_items = 100000

-- the length of the longest front, of at most so many bytes, that passes a test, and 0 where none does
abbrev pub longest_up_to : (List ℕ → Bool) → List ℕ → ℕ → ℕ
longest_up_to test text zero = 0
longest_up_to test text (suc n) = if test (take (suc n) text) then suc n else longest_up_to test text n

-- the text is a key
abbrev pub is_key : List ℕ → Bool
is_key text = ends_at (place_of text) && nat_le (length text) longest_key

-- the length of the longest front that is a key, and 0 where none is
unfoldable pub key_length : List ℕ → ℕ
key_length text = longest_up_to is_key text (length text)

-- one of the items is this host's and has this key
abbrev pub has_item : List Item → ℕ → List ℕ → Bool
has_item items host key = list_any (λ i. (i.host == host) && bytes_eq i.key key) items

-- an item of a host, with its key; its master and its steps come later
abbrev pub item_made : ℕ → List ℕ → RawItem → Item
item_made host key raw = record { host = host; key = key; kind = raw.kind; master = 0; value_type = raw.value_type; enabled = raw.enabled; steps = []; delay = raw.delay }

-- an item of a host with this key, behind those before it
unfoldable pub item_keyed_of : ℕ → List ℕ → List Item → Placed RawItem → Result Item Flaw
item_keyed_of host key before p =
    if not (is_key key) then refuse (p.path ++ codes "/key") (BadKey (key_length key))
    else if has_item before host key then refuse (p.path ++ codes "/key") Duplicate
    else if nat_le most_items (length before) then refuse p.path TooMany
    else Ok (item_made host key p.body)

-- an item of a host with these macros, behind those before it
unfoldable pub item_of : ℕ → List Macro → List Item → Placed RawItem → Result Item Flaw
item_of host macros before p = item_keyed_of host (expanded macros p.body.key) before p

-- the items of some sources, in their order
abbrev pub placed_items : List (Placed RawHost) → List (Placed RawItem)
placed_items sources = flat_map (λ s. placed (s.path ++ codes "/items") s.body.items) sources

-- the items of the host with these sources, behind those of the hosts before it
unfoldable pub items_from : RawConf → ℕ → List (Placed RawHost) → List Item → Result (List Item) Flaw
items_from raw host sources before = each (item_of host (macros_of raw sources)) before (placed_items sources)

-- the items of all hosts
unfoldable pub items_of : RawConf → Result (List Item) Flaw
items_of raw = each_list (λ before h. items_from raw (h.place + 1) (sources_of raw h) before) [] (placed_hosts raw)
