-- From each state some bytes lead to the end of a text.
use Rattle.std.proofs.Common.{◌≡◌, ℕ, List, [], ◌∷◌, ◌++◌, refl, Option, Some, true}
use Rattle.byte_grammar.specs.Runs.{run}
use Rattle.json_text.specs.Json.{Json, add, put, number, words, list, object}
use Rattle.json_text.specs.Tokens.{number_ends, spot}
use Rattle.json_text.specs.Machine.{state, after, ends_at}
use Rattle.json_text.specs.declared.number.InNumber.{InNumber}
use Rattle.json_text.specs.declared.number.InNumber.TheVariants.{Minus, Zero, Whole, Point, Fraction, Exponent, Signed, Digits}
use Rattle.byte_grammar.specs.Utf8.{rest_of}
use Rattle.byte_grammar.specs.declared.characters.Character.{Character}
use Rattle.byte_grammar.specs.declared.characters.Character.TheVariants as character
use Rattle.json_text.specs.declared.string.InString.{InString}
use Rattle.json_text.specs.declared.string.InString.TheVariants.{Between, Within, Escaped, Hex, Hex1, HexD, Hex2, Hex3, High2, High3, High, HighSlash, Low, LowD, Low2, Low3}
use Rattle.json_text.specs.declared.place.InLiteral.{InLiteral}
use Rattle.json_text.specs.declared.place.InLiteral.TheVariants.{T, Tr, Tru, F, Fa, Fal, Fals, N, Nu, Nul}
use Rattle.json_text.specs.declared.place.Use.{Use}
use Rattle.json_text.specs.declared.place.Use.TheVariants.{ForValue, ForName}
use Rattle.json_text.specs.declared.frame.Frame.{Frame}
use Rattle.json_text.specs.declared.frame.Frame.TheVariants.{Array, Object}
use Rattle.json_text.specs.declared.place.Mode.{Mode}
use Rattle.json_text.specs.declared.place.Mode.TheVariants.{Value, FirstItem, FirstName, NextName, Named, Literal, Number, String, Done}
use Rattle.json_text.specs.declared.machine.State.{State}

-- a run that ends a text
abbrev pub Ends : Option State → Type 0
Ends o = (j : Json) × (ends_at o ≡ Some j)

-- the brackets that close the open containers
abbrev closers : List Frame → List ℕ
closers [] = []
closers (Array js ∷ k) = 93 ∷ closers k
closers (Object ms name ∷ k) = 125 ∷ closers k

close_done : (k : List Frame) (j : Json) → Ends (after (Some (state (Done j) k)) (closers k))
unfolding run
close_done [] j = (j, refl)
close_done (Array js ∷ k) j = close_done k (list (add js j))
close_done (Object ms name ∷ k) j = close_done k (object (put name j ms))

close_number : (n : InNumber) → number_ends n ≡ true → (k : List Frame) (s : List ℕ) → Ends (after (Some (state (Number n s) k)) (closers k))
unfolding run
close_number Zero e [] s = (number s, refl)
close_number Whole e [] s = (number s, refl)
close_number Fraction e [] s = (number s, refl)
close_number Digits e [] s = (number s, refl)
close_number Zero e (Array js ∷ k) s = close_done k (list (add js (number s)))
close_number Whole e (Array js ∷ k) s = close_done k (list (add js (number s)))
close_number Fraction e (Array js ∷ k) s = close_done k (list (add js (number s)))
close_number Digits e (Array js ∷ k) s = close_done k (list (add js (number s)))
close_number Zero e (Object ms name ∷ k) s = close_done k (object (put name (number s) ms))
close_number Whole e (Object ms name ∷ k) s = close_done k (object (put name (number s) ms))
close_number Fraction e (Object ms name ∷ k) s = close_done k (object (put name (number s) ms))
close_number Digits e (Object ms name ∷ k) s = close_done k (object (put name (number s) ms))
close_number _ e k s = absurd cc

-- ---- what completes each place

abbrev number_rest : InNumber → List ℕ
number_rest Minus = 48 ∷ []
number_rest Zero = []
number_rest Whole = []
number_rest Point = 48 ∷ []
number_rest Fraction = []
number_rest Exponent = 48 ∷ []
number_rest Signed = 48 ∷ []
number_rest Digits = []

finish_number : (n : InNumber) (s : List ℕ) (k : List Frame) → Ends (after (Some (state (Number n s) k)) (number_rest n ++ closers k))
unfolding run
finish_number Minus s k = close_number Zero refl k (s ++ 48 ∷ [])
finish_number Zero s k = close_number Zero refl k s
finish_number Whole s k = close_number Whole refl k s
finish_number Point s k = close_number Fraction refl k (s ++ 48 ∷ [])
finish_number Fraction s k = close_number Fraction refl k s
finish_number Exponent s k = close_number Digits refl k (s ++ 48 ∷ [])
finish_number Signed s k = close_number Digits refl k (s ++ 48 ∷ [])
finish_number Digits s k = close_number Digits refl k s

-- what ends a character in a string, with one more where it is whole
abbrev character_rest : Character → List ℕ
character_rest character.Whole = 97 ∷ []
character_rest character.One = rest_of character.One
character_rest character.Two = rest_of character.Two
character_rest character.Three = rest_of character.Three
character_rest character.BehindE0 = rest_of character.BehindE0
character_rest character.BehindEd = rest_of character.BehindEd
character_rest character.BehindF0 = rest_of character.BehindF0
character_rest character.BehindF4 = rest_of character.BehindF4

-- `\uDC00` behind a high surrogate
abbrev string_rest : InString → List ℕ
string_rest Between = []
string_rest (Within c) = character_rest c
string_rest Escaped = 110 ∷ []
string_rest Hex = 48 ∷ 48 ∷ 48 ∷ 48 ∷ []
string_rest (Hex1 a) = 48 ∷ 48 ∷ 48 ∷ []
string_rest (HexD a) = 48 ∷ 48 ∷ 48 ∷ []
string_rest (Hex2 a b) = 48 ∷ 48 ∷ []
string_rest (Hex3 a b c) = 48 ∷ []
string_rest (High2 a b) = 48 ∷ 48 ∷ 92 ∷ 117 ∷ 68 ∷ 67 ∷ 48 ∷ 48 ∷ []
string_rest (High3 a b c) = 48 ∷ 92 ∷ 117 ∷ 68 ∷ 67 ∷ 48 ∷ 48 ∷ []
string_rest (High h) = 92 ∷ 117 ∷ 68 ∷ 67 ∷ 48 ∷ 48 ∷ []
string_rest (HighSlash h) = 117 ∷ 68 ∷ 67 ∷ 48 ∷ 48 ∷ []
string_rest (Low h) = 68 ∷ 67 ∷ 48 ∷ 48 ∷ []
string_rest (LowD h e) = 67 ∷ 48 ∷ 48 ∷ []
string_rest (Low2 h e f) = 48 ∷ 48 ∷ []
string_rest (Low3 h e f g) = 48 ∷ []

-- what stands behind the string
abbrev use_rest : Use → List Frame → List ℕ
use_rest ForValue k = closers k
use_rest (ForName ms) k = 58 ∷ 48 ∷ 125 ∷ closers k

finish_quote : (u : Use) (s : List ℕ) (k : List Frame) → Ends (after (Some (state (String u (spot Between s)) k)) (34 ∷ use_rest u k))
unfolding run
finish_quote ForValue s k = close_done k (words s)
finish_quote (ForName ms) s k = close_done k (object (put s (number (48 ∷ [])) ms))

finish_within : (c : Character) (u : Use) (s : List ℕ) (k : List Frame) → Ends (after (Some (state (String u (spot (Within c) s)) k)) (character_rest c ++ 34 ∷ use_rest u k))
unfolding run
finish_within character.Whole u s k = finish_quote u _ k
finish_within character.One u s k = finish_quote u _ k
finish_within character.Two u s k = finish_quote u _ k
finish_within character.Three u s k = finish_quote u _ k
finish_within character.BehindE0 u s k = finish_quote u _ k
finish_within character.BehindEd u s k = finish_quote u _ k
finish_within character.BehindF0 u s k = finish_quote u _ k
finish_within character.BehindF4 u s k = finish_quote u _ k

finish_string : (p : InString) (u : Use) (s : List ℕ) (k : List Frame) → Ends (after (Some (state (String u (spot p s)) k)) (string_rest p ++ 34 ∷ use_rest u k))
unfolding run
finish_string Between u s k = finish_quote u s k
finish_string (Within c) u s k = finish_within c u s k
finish_string _ u s k = finish_quote u _ k

abbrev literal_rest : InLiteral → List ℕ
literal_rest T = 114 ∷ 117 ∷ 101 ∷ []
literal_rest Tr = 117 ∷ 101 ∷ []
literal_rest Tru = 101 ∷ []
literal_rest F = 97 ∷ 108 ∷ 115 ∷ 101 ∷ []
literal_rest Fa = 108 ∷ 115 ∷ 101 ∷ []
literal_rest Fal = 115 ∷ 101 ∷ []
literal_rest Fals = 101 ∷ []
literal_rest N = 117 ∷ 108 ∷ 108 ∷ []
literal_rest Nu = 108 ∷ 108 ∷ []
literal_rest Nul = 108 ∷ []

finish_literal : (l : InLiteral) (k : List Frame) → Ends (after (Some (state (Literal l) k)) (literal_rest l ++ closers k))
unfolding run
finish_literal T k = close_done k _
finish_literal Tr k = close_done k _
finish_literal Tru k = close_done k _
finish_literal F k = close_done k _
finish_literal Fa k = close_done k _
finish_literal Fal k = close_done k _
finish_literal Fals k = close_done k _
finish_literal N k = close_done k _
finish_literal Nu k = close_done k _
finish_literal Nul k = close_done k _

abbrev pub finish : Mode → List Frame → List ℕ
finish Value k = 48 ∷ closers k
finish FirstItem k = 93 ∷ closers k
finish FirstName k = 125 ∷ closers k
finish (NextName ms) k = 34 ∷ 34 ∷ 58 ∷ 48 ∷ 125 ∷ closers k
finish (Named ms name) k = 58 ∷ 48 ∷ 125 ∷ closers k
finish (Literal l) k = literal_rest l ++ closers k
finish (Number n s) k = number_rest n ++ closers k
finish (String u at) k = string_rest at.place ++ 34 ∷ use_rest u k
finish (Done j) k = closers k

-- each state leads to the end of a text
pub finishes : (m : Mode) (k : List Frame) → Ends (after (Some (state m k)) (finish m k))
unfolding run
finishes Value k = close_number Zero refl k (48 ∷ [])
finishes FirstItem k = close_done k _
finishes FirstName k = close_done k _
finishes (NextName ms) k = close_done k (object (put [] (number (48 ∷ [])) ms))
finishes (Named ms name) k = close_done k (object (put name (number (48 ∷ [])) ms))
finishes (Literal l) k = finish_literal l k
finishes (Number n s) k = finish_number n s k
finishes (String u at) k = finish_string at.place u at.text k
finishes (Done j) k = close_done k j
