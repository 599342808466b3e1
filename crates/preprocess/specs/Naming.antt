-- Items by their names, as the code finds them.
use Rattle.std.specs.Prelude.{◌≡◌, ℕ, ◌&&◌, Bool, List, Option, Some, None, if◌then◌else◌}
use Rattle.std.specs.HashMap.{HashMap, get_by}
use Rattle.std.specs.List.{position_from}
use Rattle.std.specs.Option.{option_or}
use Rattle.std.specs.Str.{bytes_eq}
use Rattle.zbx_types.specs.Hosts.{host_name}
use Rattle.zbx_types.specs.Ids.{at_id}
use Rattle.zbx_types.specs.declared.conf.Conf.{Conf}
use Rattle.zbx_types.specs.declared.items.Item.{Item}
use Rattle.zbx_types.specs.declared.items.ValueType.{ValueType}
use Rattle.preprocess.specs.Carry.{same_type}
use denote.Ref.{Bor}

-- an item has this name of its host, this key and this value type
abbrev pub is_named : Conf → List ℕ → List ℕ → ValueType → Item → Bool
is_named conf host key value_type item =
    bytes_eq (host_name (at_id conf.hosts item.host)) host && bytes_eq item.key key && same_type item.value_type value_type

-- the id of the first such item, where there is one
abbrev pub item_named : Conf → List ℕ → List ℕ → ValueType → Option ℕ
item_named conf host key value_type = position_from (is_named conf host key value_type) 1 conf.items

-- the id that is kept under the name of a host and a key
abbrev pub id_in : {S : Type 0} → HashMap (Bor (List ℕ) × Bor (List ℕ)) ℕ S → List ℕ → List ℕ → Option ℕ
id_in ids host key = get_by (λ k. bytes_eq host k.0.now && bytes_eq key k.1.now) ids

-- the id under names with one item more, which may have them: the first one counts
abbrev pub first_of : Option ℕ → Bool → ℕ → Option ℕ
first_of before named id = option_or before (if named then Some id else None)

-- under the name of each host and each key the id of the first item of this value type with them is kept
abbrev pub FindsFirst : {S : Type 0} → HashMap (Bor (List ℕ) × Bor (List ℕ)) ℕ S → Conf → ValueType → Type 0
FindsFirst ids conf value_type = (host key : List ℕ) → id_in ids host key ≡ item_named conf host key value_type
