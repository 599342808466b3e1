-- Characters in UTF-8 byte by byte.
use Rattle.std.specs.Prelude.{ℕ, List, [], ◌∷◌, Option, Some, None, Bool, true, false, ◌==◌, nat_le, nat_lt}
use Rattle.std.specs.Prelude.{if◌then◌else◌}
use Rattle.byte_grammar.specs.Runs.{run}
use Rattle.byte_grammar.specs.declared.characters.Character.{Character}
use Rattle.byte_grammar.specs.declared.characters.Character.TheVariants.{Whole, One, Two, Three, BehindE0, BehindEd}
use Rattle.byte_grammar.specs.declared.characters.Character.TheVariants.{BehindF0, BehindF4}

-- the byte lies between these two
abbrev pub between : ℕ → ℕ → ℕ → Bool
between low high b = if nat_le low b then nat_le b high else false

-- what a text in UTF-8 asks behind one byte more, none where it isn't UTF-8 with it
abbrev pub follow : Character → ℕ → Option Character
follow Whole b =
    if nat_lt b 128 then Some Whole
    else if nat_lt b 194 then None
    else if nat_lt b 224 then Some One
    else if b == 224 then Some BehindE0
    else if b == 237 then Some BehindEd
    else if nat_lt b 240 then Some Two
    else if b == 240 then Some BehindF0
    else if nat_lt b 244 then Some Three
    else if b == 244 then Some BehindF4
    else None
follow One b = if between 128 191 b then Some Whole else None
follow Two b = if between 128 191 b then Some One else None
follow Three b = if between 128 191 b then Some Two else None
follow BehindE0 b = if between 160 191 b then Some One else None
follow BehindEd b = if between 128 159 b then Some One else None
follow BehindF0 b = if between 144 191 b then Some Two else None
follow BehindF4 b = if between 128 143 b then Some Two else None

-- what a text asks behind these bytes, none where no text in UTF-8 begins so
abbrev pub character_of : List ℕ → Option Character
character_of bytes = run follow (Some Whole) bytes

-- no byte of a character is still to come
abbrev pub is_whole : Character → Bool
is_whole Whole = true
is_whole One = false
is_whole Two = false
is_whole Three = false
is_whole BehindE0 = false
is_whole BehindEd = false
is_whole BehindF0 = false
is_whole BehindF4 = false

-- the bytes that make a character whole
abbrev pub rest_of : Character → List ℕ
rest_of Whole = []
rest_of One = 128 ∷ []
rest_of Two = 128 ∷ 128 ∷ []
rest_of Three = 128 ∷ 128 ∷ 128 ∷ []
rest_of BehindE0 = 160 ∷ 128 ∷ []
rest_of BehindEd = 128 ∷ 128 ∷ []
rest_of BehindF0 = 144 ∷ 128 ∷ 128 ∷ []
rest_of BehindF4 = 128 ∷ 128 ∷ 128 ∷ []
