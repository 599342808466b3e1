-- Conditions (the Zabbix 6.0 manual, "JSONPath functionality", filter expression).
use Rattle.std.specs.Prelude.{ℕ, ℤ, int_lt, int_le, Bool, false, not, List, [], ◌∷◌, Option, Some, None}
use Rattle.std.specs.Prelude.{option_and_then}
use Rattle.std.specs.List.{find}
use Rattle.std.specs.Option.{option_map, option_map_or}
use Rattle.std.specs.Ordering.{int_eq}
use Rattle.std.specs.Str.{bytes_eq}
use Rattle.zbx_types.specs.Numerals.{read_number}
use Rattle.json_text.specs.Json.{Json, null, boolean, number, words, list, object}
use Rattle.json_path.specs.Contents.{members_of}
use Rattle.json_path.specs.declared.path.Condition.{Condition}
use Rattle.json_path.specs.declared.path.Comparison.{Comparison}
use Rattle.json_path.specs.declared.path.Comparison.TheVariants.{Eq, Ne, Le, Ge, Lt, Gt}
use Rattle.json_path.specs.declared.path.Literal.{Literal}
use Rattle.json_path.specs.declared.path.Literal.TheVariants.{Words, Number}

-- the value of the first member with a name
abbrev pub named_in : List ℕ → List (List ℕ × Json) → Option Json
named_in name ms = option_map (λ m. m.1) (find (λ m. bytes_eq m.0 name) ms)

-- the value of the member of an object with a name: the first one, where several have it
abbrev pub member_named : List ℕ → Json → Option Json
member_named name j = named_in name (members_of j)

-- the value behind some names, one inside the other
abbrev pub value_at : List (List ℕ) → Json → Option Json
value_at [] j = Some j
value_at (name ∷ names) j = option_and_then (value_at names) (member_named name j)

-- how two numbers compare
abbrev pub numbers_compare : Comparison → ℤ → ℤ → Bool
numbers_compare Eq a b = int_eq a b
numbers_compare Ne a b = not (int_eq a b)
numbers_compare Le a b = int_le a b
numbers_compare Ge a b = int_le b a
numbers_compare Lt a b = int_lt a b
numbers_compare Gt a b = int_lt b a

-- the same where both have a value; without one nothing holds
abbrev pub known_compare : Comparison → Option ℤ → Option ℤ → Bool
known_compare op None b = false
known_compare op (Some a) None = false
known_compare op (Some a) (Some b) = numbers_compare op a b

-- how two texts compare: they are equal or not, and nothing else holds
abbrev pub words_compare : Comparison → List ℕ → List ℕ → Bool
words_compare Eq a b = bytes_eq a b
words_compare Ne a b = not (bytes_eq a b)
words_compare Le a b = false
words_compare Ge a b = false
words_compare Lt a b = false
words_compare Gt a b = false

-- a value compares so with a literal: numbers with numbers and texts with texts; of any other pair nothing holds
abbrev pub literal_compare : Comparison → Json → Literal → Bool
literal_compare op (number s) (Number t) = known_compare op (read_number s) (read_number t)
literal_compare op (words s) (Words t) = words_compare op s t
literal_compare op (number s) (Words t) = false
literal_compare op (words s) (Number t) = false
literal_compare op null t = false
literal_compare op (boolean b) t = false
literal_compare op (list js) t = false
literal_compare op (object ms) t = false

-- a condition holds of a value: there is one behind the names, and it compares so
unfoldable pub condition_holds : Condition → Json → Bool
condition_holds c j = option_map_or (λ v. literal_compare c.op v c.literal) (value_at c.names j) false
