-- What the agent of a host is told.
use Rattle.std.specs.Prelude.{ℕ, ◌==◌, nat_le, nat_eq, Bool, true, false, ◌&&◌, List, [], ◌∷◌, ◌++◌, length, drop, map, filter, Option, Some, None, if◌then◌else◌, codes}
use Rattle.std.specs.List.{starts_with}
use Rattle.std.specs.Fmt.{decimal}
use Rattle.zbx_types.specs.Frames.{frame, longest_data}
use Rattle.zbx_types.specs.declared.conf.Conf.{Conf}
use Rattle.zbx_types.specs.declared.items.Item.{Item}
use Rattle.zbx_types.specs.declared.items.ItemKind.{ItemKind}
use Rattle.zbx_types.specs.declared.items.ItemKind.TheVariants.{Trapper, Dependent, Active}
use Rattle.json_text.specs.Written.{in_quotes, comma_before}

-- agents ask for items of this kind
abbrev pub is_active_kind : ItemKind → Bool
is_active_kind Trapper = false
is_active_kind Dependent = false
is_active_kind Active = true

-- the agent of the host is to bring the item: it is the host's, active and enabled
abbrev pub is_check : ℕ → Item → Bool
is_check host item = (item.host == host) && is_active_kind item.kind && item.enabled

-- the items that the agent of a host is to bring, in the order of the configuration
unfoldable pub checks_of : Conf → ℕ → List Item
checks_of conf host = filter (is_check host) conf.items

-- what an agent is told of an item: its key, and after how many seconds it is to bring the next value
abbrev pub check_text : Item → List ℕ
check_text item =
    codes "{\"key\":" ++ in_quotes item.key ++ codes ",\"delay\":" ++ decimal item.delay ++ codes ",\"lastlogsize\":0,\"mtime\":0}"

-- texts, each behind a comma
abbrev pub behind_commas : List (List ℕ) → List ℕ
behind_commas [] = []
behind_commas (text ∷ texts) = codes "," ++ text ++ behind_commas texts

-- texts, each but the first behind a comma
abbrev pub between_commas : List (List ℕ) → List ℕ
between_commas [] = []
between_commas (text ∷ texts) = text ++ behind_commas texts

-- what is told of an item behind others, where it is said whether one of them was told: nothing, or its text
abbrev pub told_of : ℕ → Bool → Item → List ℕ
told_of host first item = if is_check host item then comma_before first ++ check_text item else []

-- whether the next item that is told would be the first
abbrev pub is_first_behind : ℕ → Bool → Item → Bool
is_first_behind host first item = if is_check host item then false else first

-- what is told of items one by one
abbrev pub told : ℕ → Bool → List Item → List ℕ
told host first [] = []
told host first (item ∷ items) = told_of host first item ++ told host (is_first_behind host first item) items

-- what the agent of a host is told
unfoldable pub checks_text : Conf → ℕ → List ℕ
checks_text conf host =
    codes "{\"response\":\"success\",\"data\":[" ++ between_commas (map check_text (checks_of conf host)) ++ codes "]}"

-- data in a frame, unless it is more than a frame may have
abbrev pub framed_within : List ℕ → Option (List ℕ)
framed_within body = if nat_le (length body) longest_data then Some (frame body) else None

-- a frame, whose header has 13 bytes, tells an agent its items
unfoldable pub tells_items : List ℕ → Bool
tells_items bytes = nat_le 13 (length bytes) && starts_with nat_eq (drop 13 bytes) (codes "{\"response\":\"success\",\"data\":[")
