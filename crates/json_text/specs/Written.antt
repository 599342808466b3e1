-- The written form of values (this project's own): no blanks, members in order, numbers with their text.
use Rattle.std.specs.Prelude.{ℕ, ◌/◌, ◌%◌, List, [], ◌∷◌, ◌++◌, Bool, true, false, ◌==◌, nat_lt, if◌then◌else◌, codes}
use Rattle.std.specs.Char.{digit_char}
use Rattle.json_text.specs.Json.{Json, null, boolean, number, words, list, object, Items, no_items, item, Members}
use Rattle.json_text.specs.Json.{no_members, member}

-- a byte in quotes: a quote and a backslash get a backslash, a byte below 32 is `\u00` and two lower-case digits
abbrev pub escaped_byte : ℕ → List ℕ
escaped_byte b =
    if b == 34 then 92 ∷ 34 ∷ [] else if b == 92 then 92 ∷ 92 ∷ []
    else if nat_lt b 32 then 92 ∷ 117 ∷ 48 ∷ 48 ∷ digit_char (b / 16) ∷ digit_char (b % 16) ∷ [] else b ∷ []

-- the bytes of a text as they stand in quotes
unfoldable pub escaped : List ℕ → List ℕ
escaped [] = []
escaped (b ∷ bs) = escaped_byte b ++ escaped bs

-- a text in quotes
abbrev pub in_quotes : List ℕ → List ℕ
in_quotes s = 34 ∷ (escaped s ++ 34 ∷ [])

-- Behind the first item or member a comma stands before each other one. The closing bracket belongs to them.
abbrev mutual
  pub json_written : Json → List ℕ
  json_written null = codes "null"
  json_written (boolean false) = codes "false"
  json_written (boolean true) = codes "true"
  json_written (number s) = s
  json_written (words s) = in_quotes s
  json_written (list js) = 91 ∷ items_written js
  json_written (object ms) = 123 ∷ members_written ms

  -- the items behind `[`, with the bracket that closes them
  pub items_written : Items → List ℕ
  items_written no_items = 93 ∷ []
  items_written (item j js) = json_written j ++ more_items js

  -- the items behind the first one, each after a comma
  pub more_items : Items → List ℕ
  more_items no_items = 93 ∷ []
  more_items (item j js) = 44 ∷ (json_written j ++ more_items js)

  -- the members behind `{`, with the bracket that closes them
  pub members_written : Members → List ℕ
  members_written no_members = 125 ∷ []
  members_written (member k j ms) = (in_quotes k ++ 58 ∷ json_written j) ++ more_members ms

  -- the members behind the first one, each after a comma
  pub more_members : Members → List ℕ
  more_members no_members = 125 ∷ []
  more_members (member k j ms) = 44 ∷ ((in_quotes k ++ 58 ∷ json_written j) ++ more_members ms)

-- a member: its name in quotes, a colon and its value
abbrev pub member_written : List ℕ → Json → List ℕ
member_written k j = in_quotes k ++ 58 ∷ json_written j

-- what stands before an item or a member
abbrev pub comma_before : Bool → List ℕ
comma_before true = []
comma_before false = 44 ∷ []
