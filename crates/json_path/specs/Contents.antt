-- What stands inside values.
use Rattle.std.specs.Prelude.{List, [], ◌∷◌, ◌++◌, map, ℕ}
use Rattle.json_text.specs.Json.{Json, null, boolean, number, words, list, object, Items, no_items, item, item_list}
use Rattle.json_text.specs.Json.{Members, no_members, member, member_list}

-- the elements of an array, none of any other value
abbrev pub elements_of : Json → List Json
elements_of (list js) = item_list js
elements_of null = []
elements_of (boolean b) = []
elements_of (number s) = []
elements_of (words s) = []
elements_of (object ms) = []

-- the members of an object with their names, none of any other value
abbrev pub members_of : Json → List (List ℕ × Json)
members_of (object ms) = member_list ms
members_of null = []
members_of (boolean b) = []
members_of (number s) = []
members_of (words s) = []
members_of (list js) = []

-- the values of the members
abbrev pub member_values : List (List ℕ × Json) → List Json
member_values ms = map (λ m. m.1) ms

-- the elements of an array, or the values of an object's members
abbrev pub contents_of : Json → List Json
contents_of j = elements_of j ++ member_values (members_of j)

-- a value and all values inside it, each before its contents
abbrev mutual
  pub all_within : Json → List Json
  all_within null = null ∷ []
  all_within (boolean b) = boolean b ∷ []
  all_within (number s) = number s ∷ []
  all_within (words s) = words s ∷ []
  all_within (list js) = list js ∷ within_items js
  all_within (object ms) = object ms ∷ within_members ms

  -- all values inside the items of an array, in order
  pub within_items : Items → List Json
  within_items no_items = []
  within_items (item j js) = all_within j ++ within_items js

  -- all values inside the members of an object, in order
  pub within_members : Members → List Json
  within_members no_members = []
  within_members (member k j ms) = all_within j ++ within_members ms
