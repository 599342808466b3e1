-- JSON values as plain trees (RFC 8259, "Values", "Objects" and "Arrays").
use Rattle.std.specs.Prelude.{ℕ, ◌+◌, List, [], ◌∷◌, Bool, if◌then◌else◌, bytes_eq}

-- A value. A number is the bytes of its text, words are the bytes of theirs.
mutual
  pub data Json : Type 0 where
    null : Json
    boolean : (b : Bool) → Json
    number : (text : List ℕ) → Json
    words : (text : List ℕ) → Json
    list : (items : Items) → Json
    object : (members : Members) → Json

  -- the items of an array, in order
  pub data Items : Type 0 where
    no_items : Items
    item : (first : Json) → (rest : Items) → Items

  -- the members of an object, in order
  pub data Members : Type 0 where
    no_members : Members
    member : (name : List ℕ) → (value : Json) → (rest : Members) → Members

-- the items as a list
abbrev pub item_list : Items → List Json
item_list no_items = []
item_list (item j js) = j ∷ item_list js

-- the members as a list of names with values
abbrev pub member_list : Members → List (List ℕ × Json)
member_list no_members = []
member_list (member k j ms) = (k, j) ∷ member_list ms

-- the items with one more at the end
abbrev pub add : Items → Json → Items
add no_items j = item j no_items
add (item i js) j = item i (add js j)

-- the members with this one: in the place of the first of its name, or at the end where there is none
abbrev pub put : List ℕ → Json → Members → Members
put k j no_members = member k j no_members
put k j (member l i ms) = if bytes_eq k l then member l j ms else member l i (put k j ms)

-- how many values, lists and members a value is made of
abbrev mutual
  pub json_size : Json → ℕ
  json_size null = 1
  json_size (boolean b) = 1
  json_size (number s) = 1
  json_size (words s) = 1
  json_size (list js) = items_size js + 1
  json_size (object ms) = members_size ms + 1

  -- how many the items of an array are made of
  pub items_size : Items → ℕ
  items_size no_items = 1
  items_size (item j js) = json_size j + items_size js + 1

  -- how many the members of an object are made of
  pub members_size : Members → ℕ
  members_size no_members = 1
  members_size (member k j ms) = json_size j + members_size ms + 1
