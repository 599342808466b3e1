-- What a path gives: the text of what it selects, or of what its function makes of that.
use Rattle.std.specs.Prelude.{◌≡◌, ℕ, ℤ, pos, int_div, Bool, true, false, List, [], ◌∷◌, length, Option, Some, None}
use Rattle.std.specs.Prelude.{Result, Ok, Err, if◌then◌else◌, option_and_then, option_map}
use Rattle.std.specs.List.{list_all}
use Rattle.std.specs.Fmt.{decimal}
use Rattle.zbx_types.specs.Numerals.{read_number}
use Rattle.zbx_types.specs.Arithmetic.{in_range}
use Rattle.zbx_types.specs.Numbers.{total, least, greatest}
use Rattle.zbx_types.specs.Written.{written}
use Rattle.json_text.specs.Json.{Json, null, boolean, number, words, list, object, Items, no_items, item, item_list}
use Rattle.json_text.specs.Written.{json_written}
use Rattle.json_path.specs.Selecting.{selected_from}
use Rattle.json_path.specs.declared.path.Path.{Path}
use Rattle.json_path.specs.declared.path.Segment.{Segment}
use Rattle.json_path.specs.declared.path.Selector.{Selector}
use Rattle.json_path.specs.declared.path.Selector.TheVariants.{Names, Indexes, Slice, All, Where}
use Rattle.json_path.specs.declared.path.Function.{Function}
use Rattle.json_path.specs.declared.path.Function.TheVariants.{Length, First, Min, Max, Sum, Avg}
use Rattle.json_path.specs.declared.results.SelectError.{SelectError}
use Rattle.json_path.specs.declared.results.SelectError.TheVariants.{NoMatch, NotNumber, OutOfMemory}

-- one thing alone
abbrev pub is_single : {A : Type 0} → List A → Bool
is_single [] = false
is_single (a ∷ []) = true
is_single (a ∷ b ∷ rest) = false

-- a selector of one name or of one place
abbrev pub takes_one : Selector → Bool
takes_one (Names names) = is_single names
takes_one (Indexes places) = is_single places
takes_one (Slice from to) = false
takes_one All = false
takes_one (Where condition) = false

-- a segment that selects one value at most: one name or one place, without `..`
abbrev pub is_definite_segment : Segment → Bool
is_definite_segment s = if s.deep then false else takes_one s.selector

-- a path of such segments
abbrev pub is_definite : List Segment → Bool
is_definite segments = list_all is_definite_segment segments

-- a value as a definite path gives it: its compact text, and of a text its bytes, without quotes
abbrev pub bare_text : Json → List ℕ
bare_text (words s) = s
bare_text null = json_written null
bare_text (boolean b) = json_written (boolean b)
bare_text (number s) = json_written (number s)
bare_text (list js) = json_written (list js)
bare_text (object ms) = json_written (object ms)

-- some values as items
abbrev pub items_from : List Json → Items
items_from [] = no_items
items_from (j ∷ js) = item j (items_from js)

-- a path without a function: a definite one gives its value, another one the array of its values; without any there is
-- no match
abbrev pub plain_result : Bool → List Json → Result (List ℕ) SelectError
plain_result definite [] = Err NoMatch
plain_result true (j ∷ js) = Ok (bare_text j)
plain_result false (j ∷ js) = Ok (json_written (list (items_from (j ∷ js))))

-- the numbers that values are: numbers, and texts that are number texts
abbrev pub number_of : Json → Option ℤ
number_of (number s) = read_number s
number_of (words s) = read_number s
number_of null = None
number_of (boolean b) = None
number_of (list js) = None
number_of (object ms) = None

-- the numbers that all of these values are, none where one of them is no number
abbrev pub numbers_of : List Json → Option (List ℤ)
numbers_of [] = Some []
numbers_of (j ∷ js) = option_and_then (λ z. option_map (λ zs. z ∷ zs) (numbers_of js)) (number_of j)

-- a number, where it is one in range
abbrev pub number_result : Option ℤ → Result (List ℕ) SelectError
number_result None = Err NotNumber
number_result (Some z) = Ok (written z)

-- the same of numbers of which there is at least one
abbrev pub first_of_numbers : (ℤ → List ℤ → ℤ) → List ℤ → Result (List ℕ) SelectError
first_of_numbers pick [] = Err NoMatch
first_of_numbers pick (z ∷ zs) = number_result (Some (pick z zs))

-- the sum
abbrev pub sum_result : List ℤ → Result (List ℕ) SelectError
sum_result zs = number_result (in_range (total zs))

-- the sum, in millionths, divided by how many there are, cut towards zero
abbrev pub mean : List ℤ → Result (List ℕ) SelectError
mean [] = Err NoMatch
mean (z ∷ zs) =
    number_result (option_and_then (λ sum. in_range (int_div sum (pos (length (z ∷ zs))))) (in_range (total (z ∷ zs))))

-- what is made of the numbers, where each value is one
abbrev pub of_numbers : (List ℤ → Result (List ℕ) SelectError) → Option (List ℤ) → Result (List ℕ) SelectError
of_numbers make None = Err NotNumber
of_numbers make (Some zs) = make zs

-- the first value as a definite path gives it
abbrev pub first_result : List Json → Result (List ℕ) SelectError
first_result [] = Err NoMatch
first_result (j ∷ js) = Ok (bare_text j)

-- what a function makes of values
unfoldable pub function_result : Function → List Json → Result (List ℕ) SelectError
function_result Length js = Ok (decimal (length js))
function_result First js = first_result js
function_result Min js = of_numbers (first_of_numbers least) (numbers_of js)
function_result Max js = of_numbers (first_of_numbers greatest) (numbers_of js)
function_result Sum js = of_numbers sum_result (numbers_of js)
function_result Avg js = of_numbers mean (numbers_of js)

-- the elements of an array
abbrev pub array_items : Json → Option (List Json)
array_items (list js) = Some (item_list js)
array_items null = None
array_items (boolean b) = None
array_items (number s) = None
array_items (words s) = None
array_items (object ms) = None

-- what a function makes of the elements of an array; any other value is no match
abbrev pub function_of_array : Function → Option (List Json) → Result (List ℕ) SelectError
function_of_array f None = Err NoMatch
function_of_array f (Some js) = function_result f js

-- a function works on the elements of the array that a definite path selects, or on the values of another one; without
-- any there is no match
abbrev pub called_result : Function → Bool → List Json → Result (List ℕ) SelectError
called_result f definite [] = Err NoMatch
called_result f true (j ∷ js) = function_of_array f (array_items j)
called_result f false (j ∷ js) = function_result f (j ∷ js)

-- what is given of the values that a path selects: with its function, or without one
abbrev pub result_of : Option Function → Bool → List Json → Result (List ℕ) SelectError
result_of None definite js = plain_result definite js
result_of (Some f) definite js = called_result f definite js

-- what a path gives of a value
unfoldable pub select_of : Json → Path → Result (List ℕ) SelectError
select_of j path = result_of path.function (is_definite path.segments) (selected_from path.segments (j ∷ []))

-- an answer is that one, unless memory is wanting
abbrev pub Gives : Result (List ℕ) SelectError → Result (List ℕ) SelectError → Type 0
Gives (Ok made) want = want ≡ Ok made
Gives (Err NoMatch) want = want ≡ Err NoMatch
Gives (Err NotNumber) want = want ≡ Err NotNumber
Gives (Err OutOfMemory) want = Unit {0}
