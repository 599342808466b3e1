-- The values that trees of the code stand for.
use Rattle.std.specs.Prelude.{List, [], ◌∷◌}
use Rattle.json_text.specs.Json.{Json, null, boolean, number, words, list, object, Items, no_items, item, Members}
use Rattle.json_text.specs.Json.{no_members, member}
use Rattle.json_text.specs.declared.tree.Tree.{Tree}
use Rattle.json_text.specs.declared.tree.Tree.TheVariants.{Null, Bool, Number, Words, List as ListOf, Object}
use Rattle.json_text.specs.declared.tree.Member.{Member}

-- the value of a tree
abbrev pub json_of : Tree → Json
json_of Null = null
json_of (Bool b) = boolean b
json_of (Number s) = number s
json_of (Words s) = words s
json_of (ListOf js) = list js
json_of (Object ms) = object ms

-- the values of trees, in order
abbrev pub items_of : List Tree → Items
items_of [] = no_items
items_of (t ∷ ts) = item (json_of t) (items_of ts)

-- the names with the values of members, in order
abbrev pub members_of : List Member → Members
members_of [] = no_members
members_of (m ∷ ms) = member m.name (json_of m.value) (members_of ms)
