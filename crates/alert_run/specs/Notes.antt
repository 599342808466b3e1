-- The notes of an outbox, byte by byte.
use Rattle.std.specs.Prelude.{ℕ, ◌+◌, ◌==◌, ◌&&◌, nat_eq, Bool, List, [], ◌∷◌, ◌++◌, length, get_or, Option, Some, None, option_and_then, Result, Ok, Err, if◌then◌else◌, codes}
use Rattle.std.specs.List.{list_all, starts_with}
use Rattle.std.specs.Str.{is_utf8}
use Rattle.alert_run.specs.Fields.{fields_of}
use Rattle.alert_run.specs.declared.types.Note.{Note}
use Rattle.alert_run.specs.declared.notes.Line.{Line}
use Rattle.alert_run.specs.declared.notes.Line.TheVariants.{Other, Message, Bad}
use Rattle.alert_run.specs.declared.notes.Lines.{Lines}

-- the note of a message's seven texts: its letter, event, action and step, and then recipient, subject and body
abbrev pub note_of : List (List ℕ) → Option Note
note_of fields =
    if length fields == 7 && list_all is_utf8 fields
    then Some (record { recipient = get_or fields 4 []; subject = get_or fields 5 []; body = get_or fields 6 [] })
    else None

-- the note of a line, where it is a message
abbrev pub note_in : List ℕ → Option Note
note_in line = option_and_then note_of (fields_of line)

-- the line begins as a message
abbrev pub begins_message : List ℕ → Bool
begins_message line = starts_with nat_eq line (codes "M|")

-- a line that begins as a message is one or a bad one
abbrev pub message_or_bad : Option Note → Line
message_or_bad (Some note) = Message note
message_or_bad None = Bad

-- what a line is
abbrev pub line_of : List ℕ → Line
line_of line = if begins_message line then message_or_bad (note_in line) else Other

-- behind a line: its note joins the others, and the next line begins behind the line feed; a bad line ends all with its place
abbrev pub behind : Lines → Line → Result Lines ℕ
behind lines Other = Ok (record { notes = lines.notes; line = []; at = lines.at + length lines.line + 1 })
behind lines (Message note) = Ok (record { notes = lines.notes ++ note ∷ []; line = []; at = lines.at + length lines.line + 1 })
behind lines Bad = Err lines.at

-- at a line feed
abbrev pub ended : Lines → Result Lines ℕ
ended lines = behind lines (line_of lines.line)

-- one byte more
abbrev pub taken : Lines → ℕ → Result Lines ℕ
taken lines c = if c == 10 then ended lines else Ok (record { notes = lines.notes; line = lines.line ++ c ∷ []; at = lines.at })

-- what goes on where nothing bad has come
abbrev pub going_on : (Lines → Result (List Note) ℕ) → Result Lines ℕ → Result (List Note) ℕ
going_on next (Ok lines) = next lines
going_on next (Err at) = Err at

-- the notes where so much is taken and these bytes are left, or the place of the first bad line
unfoldable pub notes_from : Lines → List ℕ → Result (List Note) ℕ
notes_from lines [] = Ok lines.notes
notes_from lines (c ∷ rest) = going_on (λ more. notes_from more rest) (taken lines c)

-- the notes of an outbox, or the place of the first line that begins as a message and is none
abbrev pub notes_of : List ℕ → Result (List Note) ℕ
notes_of bytes = notes_from (record { notes = []; line = []; at = 0 }) bytes
