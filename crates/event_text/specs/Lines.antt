-- Lines of records: fields joined by `|`, and a line feed behind the last.
use Rattle.std.specs.Prelude.{ℕ, ◌/◌, ◌%◌, ◌==◌, Bool, not, ◌||◌, List, [], ◌∷◌, ◌++◌, if◌then◌else◌, codes}
use Rattle.std.specs.List.{flat_map}
use Rattle.std.specs.Fmt.{decimal}
use Rattle.zbx_types.specs.Digits.{digit_at, last_six_digits}
use Rattle.zbx_types.specs.declared.entries.EventId.{EventId}
use Rattle.zbx_types.specs.declared.entries.Tag.{Tag}
use Rattle.zbx_types.specs.declared.entries.Cause2.{Cause2}
use Rattle.zbx_types.specs.declared.entries.Cause2.TheVariants.{Expression, Correlation, Removed}
use Rattle.zbx_types.specs.declared.entries.Rec.{Rec}
use Rattle.zbx_types.specs.declared.entries.Rec.TheVariants.{Failure, Problem, Recovery, Step, Message}

-- the last nine digits of a number
abbrev pub nine_digits : ℕ → List ℕ
nine_digits n = digit_at n 100000000 ∷ digit_at n 10000000 ∷ digit_at n 1000000 ∷ last_six_digits n

-- seconds, a point and nine digits of nanoseconds
abbrev pub seconds_text : ℕ → ℕ → List ℕ
seconds_text sec ns = decimal sec ++ codes "." ++ nine_digits ns

-- a moment, which is a number of nanoseconds
abbrev pub moment_text : ℕ → List ℕ
moment_text m = seconds_text (m / 1000000000) (m % 1000000000)

-- an event: the number of the entry that opened it, and its trigger
abbrev pub event_text_of : EventId → List ℕ
event_text_of e = decimal e.number ++ codes "-" ++ decimal e.trigger

-- a byte of a text: a backslash, a bar, a line feed and a carriage return are written as two
abbrev pub escaped_byte : ℕ → List ℕ
escaped_byte c = if c == 92 then codes "\\\\" else if c == 124 then codes "\\|" else if c == 10 then codes "\\n" else if c == 13 then codes "\\r" else c ∷ []

-- whether a byte stays as it is
abbrev pub is_plain : ℕ → Bool
is_plain c = not (c == 92 || c == 124 || c == 10 || c == 13)

-- a text as a line has it
abbrev pub escaped : List ℕ → List ℕ
escaped text = flat_map escaped_byte text

-- whether a problem is suppressed
abbrev pub suppressed_text : Bool → List ℕ
suppressed_text suppressed = if suppressed then codes "1" else codes "0"

-- what closed an event
abbrev pub cause_text : Cause2 → List ℕ
cause_text Expression = codes "e"
cause_text Correlation = codes "c"
cause_text Removed = codes "r"

-- the two fields of a tag
abbrev pub tag_fields : Tag → List (List ℕ)
tag_fields t = escaped t.tag ∷ escaped t.value ∷ []

-- the fields of a record, the letter of its kind first
abbrev pub fields_of : Rec → List (List ℕ)
fields_of (Failure number host key why) =
    codes "F" ∷ decimal number ∷ escaped host ∷ escaped key ∷ escaped why ∷ []
fields_of (Problem event now severity suppressed host trigger name tags) =
    codes "P" ∷ event_text_of event ∷ moment_text now ∷ decimal severity ∷ suppressed_text suppressed ∷ escaped host ∷ escaped trigger ∷ escaped name ∷ flat_map tag_fields tags
fields_of (Recovery event by now cause) =
    codes "R" ∷ event_text_of event ∷ decimal by ∷ moment_text now ∷ cause_text cause ∷ []
fields_of (Step event action step now) =
    codes "S" ∷ event_text_of event ∷ escaped action ∷ decimal step ∷ moment_text now ∷ []
fields_of (Message event action step recipient subject body) =
    codes "M" ∷ event_text_of event ∷ escaped action ∷ decimal step ∷ escaped recipient ∷ escaped subject ∷ escaped body ∷ []

-- a field behind another
abbrev pub barred : List ℕ → List ℕ
barred field = codes "|" ++ field

-- fields with a bar between each two
abbrev pub joined : List (List ℕ) → List ℕ
joined [] = []
joined (field ∷ more) = field ++ flat_map barred more

-- the line of a record
abbrev pub line_of : Rec → List ℕ
line_of r = joined (fields_of r) ++ codes "\n"

-- the lines of records, in their order
abbrev pub lines_of : List Rec → List ℕ
lines_of records = flat_map line_of records
