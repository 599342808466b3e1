-- Numbers and strings byte by byte: the place in one behind a front of it.
use Rattle.std.specs.Prelude.{ℕ, List, [], ◌∷◌, ◌++◌, Bool, true, false, ◌==◌, nat_lt, if◌then◌else◌, Option}
use Rattle.std.specs.Prelude.{Some, None}
use Rattle.std.specs.Char.{encode_utf8}
use Rattle.byte_grammar.specs.Bytes.{is_digit, is_e}
use Rattle.json_text.specs.Bytes.{is_sign, is_hex, hex_value, hex_code, paired, short_escape}
use Rattle.json_text.specs.declared.number.InNumber.{InNumber}
use Rattle.json_text.specs.declared.number.InNumber.TheVariants.{Minus, Zero, Whole, Point, Fraction, Exponent}
use Rattle.json_text.specs.declared.number.InNumber.TheVariants.{Signed, Digits}
use Rattle.byte_grammar.specs.Utf8.{follow}
use Rattle.byte_grammar.specs.declared.characters.Character.{Character}
use Rattle.byte_grammar.specs.declared.characters.Character.TheVariants as character
use Rattle.json_text.specs.declared.string.InString.{InString}
use Rattle.json_text.specs.declared.string.InString.TheVariants.{Between, Within, Escaped, Hex, Hex1, HexD, Hex2}
use Rattle.json_text.specs.declared.string.InString.TheVariants.{Hex3, High2, High3, High, HighSlash, Low, LowD, Low2}
use Rattle.json_text.specs.declared.string.InString.TheVariants.{Low3}
use Rattle.json_text.specs.declared.string.Spot.{Spot}

-- ---- numbers

-- a byte behind the whole part: a point or an exponent
abbrev pub behind_whole : ℕ → Option InNumber
behind_whole b = if b == 46 then Some Point else if is_e b then Some Exponent else None

-- a digit leads to this place
abbrev pub digit_to : InNumber → ℕ → Option InNumber
digit_to n b = if is_digit b then Some n else None

-- the place behind one byte more, where it belongs to the number
abbrev pub number_step : InNumber → ℕ → Option InNumber
number_step Minus b = if b == 48 then Some Zero else digit_to Whole b
number_step Zero b = behind_whole b
number_step Whole b = if is_digit b then Some Whole else behind_whole b
number_step Point b = digit_to Fraction b
number_step Fraction b = if is_digit b then Some Fraction else if is_e b then Some Exponent else None
number_step Exponent b = if is_sign b then Some Signed else digit_to Digits b
number_step Signed b = digit_to Digits b
number_step Digits b = digit_to Digits b

-- the number may end here
abbrev pub number_ends : InNumber → Bool
number_ends Minus = false
number_ends Zero = true
number_ends Whole = true
number_ends Point = false
number_ends Fraction = true
number_ends Exponent = false
number_ends Signed = false
number_ends Digits = true

-- ---- characters

-- a place in a string, with the bytes so far
abbrev pub spot : InString → List ℕ → Spot
spot p s = record { place = p; text = s }

-- the string goes on there
abbrev pub on : InString → List ℕ → Option Spot
on p s = Some (spot p s)

-- a hexadecimal digit leads to this place
abbrev pub if_hex : ℕ → InString → List ℕ → Option Spot
if_hex b p s = if is_hex b then on p s else None

-- the place in a string that a character leads to
abbrev pub at_character : Character → InString
at_character character.Whole = Between
at_character character.One = Within character.One
at_character character.Two = Within character.Two
at_character character.Three = Within character.Three
at_character character.BehindE0 = Within character.BehindE0
at_character character.BehindEd = Within character.BehindEd
at_character character.BehindF0 = Within character.BehindF0
at_character character.BehindF4 = Within character.BehindF4

-- the string goes on there, where the characters do
abbrev pub character_on : Option Character → List ℕ → Option Spot
character_on None s = None
character_on (Some c) s = on (at_character c) s

-- what an escape stands for, if it does
abbrev pub escaped_on : Option ℕ → List ℕ → Option Spot
escaped_on None s = None
escaped_on (Some c) s = on Between (s ++ c ∷ [])

-- the place behind one byte more, where it belongs to the string; the quote that ends it doesn't
abbrev pub string_step : InString → List ℕ → ℕ → Option Spot
string_step Between s b =
    if b == 34 then None else if b == 92 then on Escaped s else if nat_lt b 32 then None
    else character_on (follow character.Whole b) (s ++ b ∷ [])
string_step (Within c) s b = character_on (follow c b) (s ++ b ∷ [])
string_step Escaped s b = if b == 117 then on Hex s else escaped_on (short_escape b) s
string_step Hex s b = if_hex b (if hex_value b == 13 then HexD b else Hex1 b) s
string_step (Hex1 a) s b = if_hex b (Hex2 a b) s
string_step (HexD a) s b = if nat_lt (hex_value b) 8 then if_hex b (Hex2 a b) s
    else if nat_lt (hex_value b) 12 then on (High2 a b) s else None
string_step (Hex2 a b) s c = if_hex c (Hex3 a b c) s
string_step (Hex3 a b c) s d = if_hex d Between (s ++ encode_utf8 (hex_code a b c d))
string_step (High2 a b) s c = if_hex c (High3 a b c) s
string_step (High3 a b c) s d = if_hex d (High (hex_code a b c d)) s
string_step (High h) s b = if b == 92 then on (HighSlash h) s else None
string_step (HighSlash h) s b = if b == 117 then on (Low h) s else None
string_step (Low h) s e = if hex_value e == 13 then on (LowD h e) s else None
string_step (LowD h e) s f = if nat_lt (hex_value f) 12 then None else on (Low2 h e f) s
string_step (Low2 h e f) s g = if_hex g (Low3 h e f g) s
string_step (Low3 h e f g) s b = if_hex b Between (s ++ encode_utf8 (paired h (hex_code e f g b)))
