-- Names, quoted texts, integers and numbers byte by byte.
use Rattle.std.specs.Prelude.{ℕ, ℤ, pos, negsuc, neg_ℤ, List, [], ◌∷◌, ◌++◌, ◌+◌, ◌-◌, ◌*◌, ◌^◌, Option, Some, None}
use Rattle.std.specs.Prelude.{Bool, true, false, ◌==◌, nat_le, nat_lt, if◌then◌else◌}
use Rattle.std.specs.Str.{is_utf8}
use Rattle.byte_grammar.specs.Utf8.{follow}
use Rattle.byte_grammar.specs.Bytes.{is_digit, is_nonzero_digit, is_e}
use Rattle.json_path.specs.Grammar.{mark}
use Rattle.byte_grammar.specs.declared.characters.Character.{Character}
use Rattle.byte_grammar.specs.declared.characters.Character.TheVariants.{Whole}
use Rattle.json_path.specs.declared.tokens.Spelling.{Spelling}
use Rattle.json_path.specs.declared.tokens.Quotation.{Quotation}
use Rattle.json_path.specs.declared.tokens.Quoting.{Quoting}
use Rattle.json_path.specs.declared.tokens.Quoting.TheVariants.{Open, Closed, Wrong}
use Rattle.json_path.specs.declared.integers.Digits.{Digits}
use Rattle.json_path.specs.declared.numbers.Part.{Part}
use Rattle.json_path.specs.declared.numbers.Part.TheVariants.{Minus, Zero, Integer, Point, Fraction, Letter, Sign}
use Rattle.json_path.specs.declared.numbers.Part.TheVariants.{Exponent}
use Rattle.json_path.specs.declared.numbers.Numeral.{Numeral}
use Rattle.json_path.specs.declared.numbers.Numbering.{Numbering}
use Rattle.json_path.specs.declared.numbers.Numbering.TheVariants.{Going, Ended}

-- the text without bytes
abbrev pub unspelt : Spelling
unspelt = record { bytes = []; character = Whole }

-- with one byte more, where it may still be UTF-8
abbrev pub spell_to : Spelling → ℕ → Option Character → Option Spelling
spell_to s b None = None
spell_to s b (Some c) = Some (record { bytes = s.bytes ++ b ∷ []; character = c })

-- a text with one byte more, none where no text in UTF-8 goes on with it
abbrev pub spell : Spelling → ℕ → Option Spelling
spell s b = spell_to s b (follow s.character b)

-- the bytes as a text, none where they aren't UTF-8
abbrev pub checked : List ℕ → Option (List ℕ)
checked bytes = if is_utf8 bytes then Some bytes else None

-- a quoted text of which the quote alone has come
abbrev pub quotation : Bool → Quotation
quotation double = record { double = double; escaped = false; spelling = unspelt }

-- a byte belongs to the quoted text
abbrev pub quoting : Bool → Option Spelling → Quoting
quoting double None = Wrong
quoting double (Some s) = Open (record { double = double; escaped = false; spelling = s })

-- the quote ends it
abbrev pub closing : Option (List ℕ) → Quoting
closing None = Wrong
closing (Some words) = Closed words

-- what a byte does to a quoted text
abbrev pub quote : Quotation → ℕ → Quoting
quote q b =
    if q.escaped then quoting q.double (spell q.spelling b)
    else if b == mark q.double then closing (checked q.spelling.bytes)
    else if b == 92 then Open (record { double = q.double; escaped = true; spelling = q.spelling })
    else quoting q.double (spell q.spelling b)

-- the quoted text that a byte begins
abbrev pub begin_quote : ℕ → Option Quotation
begin_quote b = if b == 34 then Some (quotation true) else if b == 39 then Some (quotation false) else None

-- the greatest distance from 0 of an integer of this sign
abbrev pub farthest : Bool → ℕ
farthest minus = if minus then 2 ^ 63 else 2 ^ 63 - 1

-- an integer with one digit more, where it fits
abbrev pub digit : Digits → ℕ → Option Digits
digit n b =
    if nat_le (n.value * 10 + (b - 48)) (farthest n.minus)
    then Some (record { minus = n.minus; any = true; value = n.value * 10 + (b - 48) })
    else None

-- the integer that a byte begins
abbrev pub begin_integer : ℕ → Option Digits
begin_integer b =
    if b == 45 then Some (record { minus = true; any = false; value = 0 })
    else if is_digit b then Some (record { minus = false; any = true; value = b - 48 }) else None

-- the integer of these digits
abbrev pub integer : Digits → ℤ
integer n =
    if n.minus then (if nat_lt n.value (2 ^ 63) then neg_ℤ (pos n.value) else negsuc (2 ^ 63 - 1))
    else (if nat_lt n.value (2 ^ 63) then pos n.value else pos (2 ^ 63 - 1))

-- the part of a JSON number that a byte belongs to, none where it doesn't go on with it
abbrev pub part : Part → ℕ → Option Part
part Minus b = if b == 48 then Some Zero else if is_nonzero_digit b then Some Integer else None
part Zero b = if b == 46 then Some Point else if is_e b then Some Letter else None
part Integer b =
    if is_digit b then Some Integer else if b == 46 then Some Point else if is_e b then Some Letter else None
part Point b = if is_digit b then Some Fraction else None
part Fraction b = if is_digit b then Some Fraction else if is_e b then Some Letter else None
part Letter b = if is_digit b then Some Exponent else if b == 43 then Some Sign else if b == 45 then Some Sign else None
part Sign b = if is_digit b then Some Exponent else None
part Exponent b = if is_digit b then Some Exponent else None

-- the part that a byte begins a number with
abbrev pub begin_part : ℕ → Option Part
begin_part b =
    if b == 45 then Some Minus else if b == 48 then Some Zero else if is_nonzero_digit b then Some Integer else None

-- a number may end in this part
abbrev pub may_end : Part → Bool
may_end Minus = false
may_end Zero = true
may_end Integer = true
may_end Point = false
may_end Fraction = true
may_end Letter = false
may_end Sign = false
may_end Exponent = true

-- a number with one byte more, in this part
abbrev pub numeral : List ℕ → ℕ → Option Part → Option Numeral
numeral bytes b None = None
numeral bytes b (Some p) = Some (record { part = p; bytes = bytes ++ b ∷ [] })

-- the text of a number, where it may end here
abbrev pub whole_number : Numeral → Option (List ℕ)
whole_number n = if may_end n.part then checked n.bytes else None

-- what a byte makes of a number: one with it, or the text of the number before it
abbrev pub numbering : Numeral → ℕ → Option Part → Numbering
numbering n b None = Ended (whole_number n)
numbering n b (Some p) = Going (record { part = p; bytes = n.bytes ++ b ∷ [] })

-- what a byte makes of a number, by the part that it belongs to
abbrev pub number_on : Numeral → ℕ → Numbering
number_on n b = numbering n b (part n.part b)
