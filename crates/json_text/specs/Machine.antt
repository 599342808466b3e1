-- JSON texts byte by byte: where a text stands behind a front of it, and what was read of it.
use Rattle.std.specs.Prelude.{ℕ, List, [], ◌∷◌, ◌++◌, length, Bool, true, false, ◌==◌, nat_lt, if◌then◌else◌, Option}
use Rattle.std.specs.Prelude.{Some, None}
use Rattle.byte_grammar.specs.Runs.{run}
use Rattle.byte_grammar.specs.Bytes.{is_digit}
use Rattle.json_text.specs.Bytes.{is_blank}
use Rattle.json_text.specs.Json.{Json, null, boolean, number, words, list, object, no_items, add, no_members, put}
use Rattle.json_text.specs.Tokens.{number_step, number_ends, spot, string_step}
use Rattle.json_text.specs.declared.number.InNumber.{InNumber}
use Rattle.json_text.specs.declared.number.InNumber.TheVariants.{Minus, Zero, Whole}
use Rattle.json_text.specs.declared.string.InString.{InString}
use Rattle.json_text.specs.declared.string.InString.TheVariants.{Between}
use Rattle.json_text.specs.declared.string.Spot.{Spot}
use Rattle.json_text.specs.declared.place.InLiteral.{InLiteral}
use Rattle.json_text.specs.declared.place.InLiteral.TheVariants.{T, Tr, Tru, F, Fa, Fal, Fals, N, Nu, Nul}
use Rattle.json_text.specs.declared.place.Use.{Use}
use Rattle.json_text.specs.declared.place.Use.TheVariants.{ForValue, ForName}
use Rattle.json_text.specs.declared.frame.Frame.{Frame}
use Rattle.json_text.specs.declared.frame.Frame.TheVariants.{Array, Object}
use Rattle.json_text.specs.declared.place.Mode.{Mode}
use Rattle.json_text.specs.declared.place.Mode.TheVariants.{Value, FirstItem, FirstName, NextName, Named, Literal}
use Rattle.json_text.specs.declared.place.Mode.TheVariants.{Number, String, Done}
use Rattle.json_text.specs.declared.machine.State.{State}

-- that place, with these containers open
abbrev pub state : Mode → List Frame → State
state m k = record { mode = m; stack = k }

-- the text goes on there
abbrev pub to : Mode → List Frame → Option State
to m k = Some (state m k)

-- one bracket more
abbrev pub opened : Mode → List Frame → Option State
opened m k = if nat_lt (length k) 64 then to m k else None

-- behind the quote that opens a string
abbrev pub quoted : Use → Mode
quoted u = String u (spot Between [])

-- the first byte of a value
abbrev pub begun : List Frame → ℕ → Option State
begun k b =
    if b == 34 then to (quoted ForValue) k
    else if b == 91 then opened FirstItem k
    else if b == 123 then opened FirstName k
    else if b == 45 then to (Number Minus (b ∷ [])) k
    else if b == 48 then to (Number Zero (b ∷ [])) k
    else if is_digit b then to (Number Whole (b ∷ [])) k
    else if b == 116 then to (Literal T) k
    else if b == 102 then to (Literal F) k
    else if b == 110 then to (Literal N) k
    else None

-- a comma behind a value
abbrev pub comma : Json → List Frame → Option State
comma j [] = None
comma j (Array js ∷ k) = to Value (Array (add js j) ∷ k)
comma j (Object ms name ∷ k) = to (NextName (put name j ms)) k

-- a bracket behind a value
abbrev pub close_array : Json → List Frame → Option State
close_array j [] = None
close_array j (Array js ∷ k) = to (Done (list (add js j))) k
close_array j (Object ms name ∷ k) = None

-- the brace behind the last value of an object
abbrev pub close_object : Json → List Frame → Option State
close_object j [] = None
close_object j (Array js ∷ k) = None
close_object j (Object ms name ∷ k) = to (Done (object (put name j ms))) k

-- a byte behind a value
abbrev pub behind : Json → List Frame → ℕ → Option State
behind j k b =
    if is_blank b then to (Done j) k
    else if b == 44 then comma j k
    else if b == 93 then close_array j k
    else if b == 125 then close_object j k
    else None

-- that place, where the byte is the one wanted
abbrev pub exactly : ℕ → Mode → List Frame → ℕ → Option State
exactly want m k b = if b == want then to m k else None

-- a byte of a literal
abbrev pub literal_on : InLiteral → List Frame → ℕ → Option State
literal_on T k b = exactly 114 (Literal Tr) k b
literal_on Tr k b = exactly 117 (Literal Tru) k b
literal_on Tru k b = exactly 101 (Done (boolean true)) k b
literal_on F k b = exactly 97 (Literal Fa) k b
literal_on Fa k b = exactly 108 (Literal Fal) k b
literal_on Fal k b = exactly 115 (Literal Fals) k b
literal_on Fals k b = exactly 101 (Done (boolean false)) k b
literal_on N k b = exactly 117 (Literal Nu) k b
literal_on Nu k b = exactly 108 (Literal Nul) k b
literal_on Nul k b = exactly 108 (Done null) k b

-- a byte that doesn't belong to a number
abbrev pub behind_number : Bool → List ℕ → List Frame → ℕ → Option State
behind_number false text k b = None
behind_number true text k b = behind (number text) k b

-- a byte in a number or behind it
abbrev pub number_on : Option InNumber → InNumber → List ℕ → List Frame → ℕ → Option State
number_on None n text k b = behind_number (number_ends n) text k b
number_on (Some p) n text k b = to (Number p (text ++ b ∷ [])) k

-- the quote behind a string
abbrev pub unquoted : Use → List ℕ → List Frame → Option State
unquoted ForValue s k = to (Done (words s)) k
unquoted (ForName ms) s k = to (Named ms s) k

-- a place in a string, if there is one
abbrev pub string_on : Use → Option Spot → List Frame → Option State
string_on u None k = None
string_on u (Some at) k = to (String u at) k

-- whether the byte is the quote that ends the string
abbrev pub is_end : InString → ℕ → Bool
is_end Between b = b == 34
is_end _ b = false

-- the state behind one byte more
abbrev pub move : Mode → List Frame → ℕ → Option State
move Value k b = if is_blank b then to Value k else begun k b
move FirstItem k b =
    if is_blank b then to FirstItem k else if b == 93 then to (Done (list no_items)) k
    else begun (Array no_items ∷ k) b
move FirstName k b =
    if is_blank b then to FirstName k else if b == 125 then to (Done (object no_members)) k
    else exactly 34 (quoted (ForName no_members)) k b
move (NextName ms) k b = if is_blank b then to (NextName ms) k else exactly 34 (quoted (ForName ms)) k b
move (Named ms name) k b = if is_blank b then to (Named ms name) k else exactly 58 Value (Object ms name ∷ k) b
move (Literal l) k b = literal_on l k b
move (Number n text) k b = number_on (number_step n b) n text k b
move (String u at) k b = if is_end at.place b then unquoted u at.text k
    else string_on u (string_step at.place at.text b) k
move (Done j) k b = behind j k b

-- the same, of a state
abbrev pub step : State → ℕ → Option State
step s b = move s.mode s.stack b

-- the state behind some bytes more
abbrev pub after : Option State → List ℕ → Option State
after s bytes = run step s bytes

-- the state where no byte has come
abbrev pub start : State
start = state Value []

-- a value that may end here
abbrev pub held : Mode → Option Json
held Value = None
held FirstItem = None
held FirstName = None
held (NextName ms) = None
held (Named ms name) = None
held (Literal l) = None
held (Number n text) = if number_ends n then Some (number text) else None
held (String u at) = None
held (Done j) = Some j

-- the value, where no container is open
abbrev pub ends_in : Option Json → List Frame → Option Json
ends_in j [] = j
ends_in j (f ∷ k) = None

-- the value, where the text may end here
abbrev pub ends : State → Option Json
ends s = ends_in (held s.mode) s.stack

-- the same, where a text goes on at all
abbrev pub ends_at : Option State → Option Json
ends_at None = None
ends_at (Some s) = ends s

-- what the machine makes of a text
abbrev pub json_at : List ℕ → Option Json
json_at text = ends_at (after (Some start) text)
