-- Each tree is smaller than the list that holds it.
use Rattle.std.specs.Prelude.{◌≤◌, max, List, [], ◌∷◌}
use Rattle.std.proofs.Common.{arith}
use denote.Param.Weighed.{most}
use Rattle.json_text.specs.Json.{json_size, items_size, members_size}
use Rattle.json_text.specs.Trees.{json_of, items_of, members_of}
use Rattle.json_text.specs.declared.tree.Tree.{Tree}
use Rattle.json_text.specs.declared.tree.Tree.TheVariants.{Null, Bool, Number, Words, List as ListOf, Object}
use Rattle.json_text.specs.declared.tree.Member.{Member}
use Rattle.json_text.specs.declared.tree.Members.TheDeep.{deep-Tree, deep-Member}

-- a tree is no deeper than its value is large
tree_depth : (t : Tree) → deep-Tree t ≤ json_size (json_of t)
tree_depth Null = omega arith
tree_depth (Bool b) = omega arith
tree_depth (Number s) = omega arith
tree_depth (Words s) = omega arith
tree_depth (ListOf js) = omega arith
tree_depth (Object ms) = omega arith

-- no item is deeper than the list is large
most_items : (ts : List Tree) → most deep-Tree ts ≤ items_size (items_of ts)
most_items [] = omega arith
most_items (t ∷ ts) = omega (arith, tree_depth t, most_items ts)

-- no item is larger than the list
pub items_fall : (ts : List Tree) → max (most deep-Tree ts) 0 ≤ items_size (items_of ts)
items_fall ts = omega (arith, most_items ts)

-- a member is no deeper than its value is large
member_depth : (m : Member) → deep-Member m ≤ json_size (json_of m.value)
member_depth m = omega (arith, tree_depth m.value)

-- no member is deeper than the object is large
most_members : (ms : List Member) → most deep-Member ms ≤ members_size (members_of ms)
most_members [] = omega arith
most_members (m ∷ ms) = omega (arith, member_depth m, most_members ms)

-- no member's value is larger than the object
pub members_fall : (ms : List Member) → max (most deep-Member ms) 0 ≤ members_size (members_of ms)
members_fall ms = omega (arith, most_members ms)
