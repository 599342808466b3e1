-- The request that a body is, by the reading of JSON that `serde_json` states.
use Rattle.std.specs.Prelude.{ℕ, ◌+◌, ◌*◌, ◌==◌, nat_le, Bool, false, ◌&&◌, List, [], ◌∷◌, length, Option, Some, None, if◌then◌else◌, codes}
use Rattle.std.specs.Option.{option_map, option_and_then}
use Rattle.std.specs.Str.{bytes_eq}
use Rattle.std.specs.Fmt.{signed_decimal}
use Rattle.serde_json.specs.Data.{Data, null, boolean, number, string, array, object, Items, no_items, item}
use Rattle.serde_json.specs.Find.{get, as_str, as_array, as_u64, as_integer}
use Rattle.json_form.specs.Json.{json_of}
use Rattle.zbx_types.specs.Numerals.{all_digits, digits_after}
use Rattle.zbx_types.specs.Periods.{up_to}
use Rattle.sender_json.specs.declared.asked.Asked.{Asked}
use Rattle.sender_json.specs.declared.asked.Clock.{Clock}
use Rattle.sender_json.specs.declared.asked.Clock.TheVariants.{Absent, Bad, At}
use Rattle.sender_json.specs.declared.body.Body.{Body}
use Rattle.sender_json.specs.declared.request.Request.{Request}
use Rattle.sender_json.specs.declared.request.Request.TheVariants.{NotJson, Other, Values}

-- the value's text: a text, or the digits of a whole number that the reading holds as one
unfoldable pub value_text : Data → Option (List ℕ)
value_text null = None
value_text (boolean b) = None
value_text (number n) = option_map signed_decimal (as_integer n)
value_text (string s) = Some s
value_text (array ds) = None
value_text (object ms) = None

-- the number that a text of decimal digits writes, up to the greatest
unfoldable pub digits_within : ℕ → List ℕ → Option ℕ
digits_within most text = if nat_le 1 (length text) && all_digits text then up_to most (digits_after 0 text) else None

-- a whole number up to the greatest, as a number or as a text of digits
unfoldable pub whole_within : ℕ → Data → Option ℕ
whole_within most null = None
whole_within most (boolean b) = None
whole_within most (number n) = option_and_then (up_to most) (as_u64 n)
whole_within most (string s) = digits_within most s
whole_within most (array ds) = None
whole_within most (object ms) = None

-- the nanoseconds of `ns`, 0 where it isn't there
unfoldable pub ns_of : Option Data → Option ℕ
ns_of None = Some 0
ns_of (Some d) = whole_within 999999999 d

-- a moment, where both parts are of their form
unfoldable pub moment_of : Option ℕ → Option ℕ → Clock
moment_of (Some sec) (Some ns) = At (sec * 1000000000 + ns)
moment_of (Some sec) None = Bad
moment_of None ns = Bad

-- what `clock` and `ns` say
unfoldable pub clock_of : Option Data → Option Data → Clock
clock_of None ns = Absent
clock_of (Some d) ns = moment_of (whole_within 4294967295 d) (ns_of ns)

-- the asked value that an element is
unfoldable pub asked_of : Data → Asked
asked_of d = record {
  host = option_and_then as_str (get (codes "host") d);
  key = option_and_then as_str (get (codes "key") d);
  value = option_and_then value_text (get (codes "value") d);
  clock = clock_of (get (codes "clock") d) (get (codes "ns") d);
}

-- there is a number, and it is 1
abbrev pub is_one_there : Option ℕ → Bool
is_one_there None = false
is_one_there (Some n) = n == 1

-- a value is the whole number 1, as the reading holds it
unfoldable pub is_one : Data → Bool
is_one null = false
is_one (boolean b) = false
is_one (number n) = is_one_there (as_u64 n)
is_one (string s) = false
is_one (array ds) = false
is_one (object ms) = false

-- there is a value, and it is the whole number 1
unfoldable pub is_one_at : Option Data → Bool
is_one_at None = false
is_one_at (Some d) = is_one d

-- an agent says of an element that it doesn't support the item
unfoldable pub is_unsupported : Data → Bool
is_unsupported d = is_one_at (get (codes "state") d)

-- what is made of all elements
abbrev pub all_by : {E : Type 0} → (Data → E) → Items → List E
all_by of no_items = []
all_by of (item d ds) = of d ∷ all_by of ds

-- what is gathered of all elements, where it is said what is kept of each
abbrev pub gathered_by : {E T : Type 0} → (List E → T) → (Data → E) → Items → T
gathered_by gather of ds = gather (all_by of ds)

-- what is read of a body's JSON value: texts `request` and `host`, and what is made of the elements of an array `data`
unfoldable pub body_by : {T : Type 0} → (Items → T) → Data → Body T
body_by of d = record {
  request = option_and_then as_str (get (codes "request") d);
  host = option_and_then as_str (get (codes "host") d);
  elements = option_map of (option_and_then as_array (get (codes "data") d));
}

-- the same with a list of what is made of each element
abbrev pub body_of : {E : Type 0} → (Data → E) → Data → Body (List E)
body_of of = body_by (all_by of)

-- the asked values of all elements
abbrev pub all_asked : Items → List Asked
all_asked = all_by asked_of

-- the name of a request, where it has one, is `sender data`
abbrev pub is_sender_data : Option (List ℕ) → Bool
is_sender_data None = false
is_sender_data (Some name) = bytes_eq name (codes "sender data")

-- the request with these values, or another request where there are none
abbrev pub values_or_other : {T : Type 0} → Option T → Request T
values_or_other None = Other
values_or_other (Some all) = Values all

-- the request that is made of what is read of a body
abbrev pub request_made : {T : Type 0} → Body T → Request T
request_made body = if is_sender_data body.request then values_or_other body.elements else Other

-- a request with what is made of its values
abbrev pub request_with : {A B : Type 0} → (A → B) → Request A → Request B
request_with f NotJson = NotJson
request_with f Other = Other
request_with f (Values all) = Values (f all)

-- the request that a JSON value is
unfoldable pub sender_request : Data → Request (List Asked)
sender_request d =
    if is_sender_data (option_and_then as_str (get (codes "request") d))
    then values_or_other (option_map all_asked (option_and_then as_array (get (codes "data") d))) else Other

-- the request that a body is, told by the JSON value that it is, if it is one
abbrev pub request_of_json : Option Data → Request (List Asked)
request_of_json None = NotJson
request_of_json (Some d) = sender_request d

-- the request that a body is
unfoldable pub request_of : List ℕ → Request (List Asked)
request_of body = request_of_json (json_of body)
