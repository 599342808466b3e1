-- What the tokens of a JSON text begin with, by the reading that `serde_json` states.
use Rattle.std.specs.Prelude.{ℕ, List, length, Option}
use Rattle.json.specs.Token.{Token}
use Rattle.json.specs.Json.{value, items, members}
use Rattle.serde_json.specs.Data.{Data, Items, Members, no_members}
use Rattle.serde_json.specs.Read.{of_json, of_items, of_members, converted}

-- the value that comes first, nested no deeper than the number, and the tokens after it
abbrev pub value_first : ℕ → List Token → Option (Data × List Token)
value_first depth ts = converted of_json (value depth ts)

-- the elements up to the bracket that closes their array, and the tokens after it
abbrev pub items_first : ℕ → List Token → Option (Items × List Token)
items_first depth ts = converted of_items (items (value depth) (length ts) ts)

-- the members up to the brace that closes their object, and the tokens after it
abbrev pub members_first : ℕ → List Token → Option (Members × List Token)
members_first depth ts = converted (λ ms. of_members ms no_members) (members (value depth) (length ts) ts)
