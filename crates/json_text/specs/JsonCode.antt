-- How the logic stores a value: its nodes, each before its parts.
use Rattle.std.specs.Prelude.{◌≡◌, ℕ, ◌==◌, true, false, cond, List, [], ◌∷◌, refl}
use Rattle.std.proofs.Common.{ap, ◌∙◌}
use Rattle.std.specs.Coded.{Coded, code_by, coded×, coded_ℕ, coded_list}
use Rattle.json_text.specs.Json.{Json, null, boolean, number, words, list, object, Items, no_items, item, Members}
use Rattle.json_text.specs.Json.{no_members, member}

-- a part of a value
pub data Part : Type 0 where
  value : (j : Json) → Part
  items : (js : Items) → Part
  members : (ms : Members) → Part

-- a node: its number, and a text where it has one
abbrev Node : Type 0
Node = ℕ × List ℕ

-- the nodes of a value, its items or its members, before others
abbrev mutual
  nodes : Json → List Node → List Node
  nodes null rest = (0, []) ∷ rest
  nodes (boolean false) rest = (1, []) ∷ rest
  nodes (boolean true) rest = (2, []) ∷ rest
  nodes (number s) rest = (3, s) ∷ rest
  nodes (words s) rest = (4, s) ∷ rest
  nodes (list js) rest = (5, []) ∷ items_nodes js rest
  nodes (object ms) rest = (6, []) ∷ members_nodes ms rest

  items_nodes : Items → List Node → List Node
  items_nodes no_items rest = (7, []) ∷ rest
  items_nodes (item j js) rest = (8, []) ∷ nodes j (items_nodes js rest)

  members_nodes : Members → List Node → List Node
  members_nodes no_members rest = (9, []) ∷ rest
  members_nodes (member k j ms) rest = (10, k) ∷ nodes j (members_nodes ms rest)

-- an array of the items in front
abbrev listed : List Part → List Part
listed [] = []
listed (value j ∷ ps) = ps
listed (items js ∷ ps) = value (list js) ∷ ps
listed (members ms ∷ ps) = ps

-- an object of the members in front
abbrev objected : List Part → List Part
objected [] = []
objected (value j ∷ ps) = ps
objected (items js ∷ ps) = ps
objected (members ms ∷ ps) = value (object ms) ∷ ps

-- an item before the items in front
abbrev item_onto : Json → List Part → List Part
item_onto j [] = []
item_onto j (value i ∷ ps) = ps
item_onto j (items js ∷ ps) = items (item j js) ∷ ps
item_onto j (members ms ∷ ps) = ps

-- the value in front as the first of the items behind it
abbrev item_made : List Part → List Part
item_made [] = []
item_made (value j ∷ ps) = item_onto j ps
item_made (items js ∷ ps) = ps
item_made (members ms ∷ ps) = ps

-- a member before the members in front
abbrev member_onto : List ℕ → Json → List Part → List Part
member_onto k j [] = []
member_onto k j (value i ∷ ps) = ps
member_onto k j (items js ∷ ps) = ps
member_onto k j (members ms ∷ ps) = members (member k j ms) ∷ ps

-- the value in front, with a name, as the first of the members behind it
abbrev member_made : List ℕ → List Part → List Part
member_made k [] = []
member_made k (value j ∷ ps) = member_onto k j ps
member_made k (items js ∷ ps) = ps
member_made k (members ms ∷ ps) = ps

-- the parts behind a node and those of the nodes after it
abbrev made : ℕ → List ℕ → List Part → List Part
made n s ps =
    cond (n == 0) (value null ∷ ps) (cond (n == 1) (value (boolean false) ∷ ps)
    (cond (n == 2) (value (boolean true) ∷ ps)
    (cond (n == 3) (value (number s) ∷ ps) (cond (n == 4) (value (words s) ∷ ps) (cond (n == 5) (listed ps)
    (cond (n == 6) (objected ps) (cond (n == 7) (items no_items ∷ ps) (cond (n == 8) (item_made ps)
    (cond (n == 9) (members no_members ∷ ps) (member_made s ps))))))))))

-- the parts that nodes are made of
abbrev parts : List Node → List Part
parts [] = []
parts (node ∷ rest) = made node.0 node.1 (parts rest)

-- the parts come back from their nodes
mutual
  parts_back : (j : Json) (rest : List Node) → parts (nodes j rest) ≡ value j ∷ parts rest
  parts_back null rest = refl
  parts_back (boolean false) rest = refl
  parts_back (boolean true) rest = refl
  parts_back (number s) rest = refl
  parts_back (words s) rest = refl
  parts_back (list js) rest = ap listed (items_back js rest)
  parts_back (object ms) rest = ap objected (members_back ms rest)

  items_back : (js : Items) (rest : List Node) → parts (items_nodes js rest) ≡ items js ∷ parts rest
  items_back no_items rest = refl
  items_back (item j js) rest =
      ap item_made (parts_back j (items_nodes js rest)) ∙ ap (item_onto j) (items_back js rest)

  members_back : (ms : Members) (rest : List Node) → parts (members_nodes ms rest) ≡ members ms ∷ parts rest
  members_back no_members rest = refl
  members_back (member k j ms) rest =
      ap (member_made k) (parts_back j (members_nodes ms rest)) ∙ ap (member_onto k j) (members_back ms rest)

-- the items in front, or none
abbrev first_items : List Part → Items
first_items [] = no_items
first_items (value j ∷ ps) = no_items
first_items (items js ∷ ps) = js
first_items (members ms ∷ ps) = no_items

-- the members in front, or none
abbrev first_members : List Part → Members
first_members [] = no_members
first_members (value j ∷ ps) = no_members
first_members (items js ∷ ps) = no_members
first_members (members ms ∷ ps) = ms

-- how a list of nodes is stored
abbrev node_code : Coded (List Node)
node_code = coded_list (coded× coded_ℕ (coded_list coded_ℕ))

-- the value in front, or null
abbrev first_value : List Part → Json
first_value [] = null
first_value (value j ∷ ps) = j
first_value (items js ∷ ps) = null
first_value (members ms ∷ ps) = null

-- a value comes back from its nodes
pub value_again : (j : Json) → first_value (parts (nodes j [])) ≡ j
value_again j = ap first_value (parts_back j [])

-- items come back from theirs
pub items_again : (js : Items) → first_items (parts (items_nodes js [])) ≡ js
items_again js = ap first_items (items_back js [])

-- members come back from theirs
pub members_again : (ms : Members) → first_members (parts (members_nodes ms [])) ≡ ms
members_again ms = ap first_members (members_back ms [])

-- values, items and members, as the logic stores them
abbrev pub json_code : Coded Json
json_code = code_by (List Node) node_code (λ j. nodes j []) (λ ns. first_value (parts ns)) value_again

-- how items are stored
abbrev pub items_code : Coded Items
items_code = code_by (List Node) node_code (λ js. items_nodes js []) (λ ns. first_items (parts ns)) items_again

-- how members are stored
abbrev pub members_code : Coded Members
members_code = code_by (List Node) node_code (λ ms. members_nodes ms []) (λ ns. first_members (parts ns)) members_again
