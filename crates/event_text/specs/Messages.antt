-- Messages about problems and their recovery (the Zabbix 6.0 manual, "Supported macros").
use Rattle.std.specs.Prelude.{ℕ, ◌/◌, ◌==◌, Bool, true, false, nat_le, List, [], ◌∷◌, ◌++◌, length, Option, option_map, if◌then◌else◌, codes, ℤ, pos, unsigned_abs}
use Rattle.std.specs.List.{flat_map}
use Rattle.std.specs.Option.{option_map_or}
use Rattle.zbx_types.specs.Digits.{digit_at}
use Rattle.zbx_types.specs.Records.{event_of, tags_of, host_of}
use Rattle.zbx_types.specs.declared.conf.Conf.{Conf}
use Rattle.zbx_types.specs.declared.entries.Rec.{Rec}
use Rattle.zbx_types.specs.declared.entries.Rec.TheVariants.{Failure, Problem, Recovery, Step, Message}
use Rattle.zbx_types.specs.declared.entries.Tag.{Tag}
use Rattle.local_time.specs.Clock.{clock_at}
use Rattle.local_time.specs.declared.clock.Clock.{Clock}
use Rattle.event_text.specs.Lines.{event_text_of}
use Rattle.event_text.specs.Pieces.{pieces_in}
use Rattle.event_text.specs.Words.{told_at}
use Rattle.event_text.specs.declared.words.Word.{Word}
use Rattle.event_text.specs.declared.words.Word.TheVariants.{Id, Name, Severity, Tags, Date, Time, RecoveryDate, RecoveryTime, Host, Trigger}

-- whether a record is a problem
abbrev pub is_problem : Rec → Bool
is_problem (Problem event now severity suppressed host trigger name tags) = true
is_problem (Failure number host key why) = false
is_problem (Recovery event by now cause) = false
is_problem (Step event action step now) = false
is_problem (Message event action step recipient subject body) = false

-- the name of a problem's event; of other records nothing
abbrev pub event_name : Rec → List ℕ
event_name (Problem event now severity suppressed host trigger name tags) = name
event_name (Failure number host key why) = []
event_name (Recovery event by now cause) = []
event_name (Step event action step now) = []
event_name (Message event action step recipient subject body) = []

-- the severity of a problem; of other records 0
abbrev pub severity_of : Rec → ℕ
severity_of (Problem event now severity suppressed host trigger name tags) = severity
severity_of (Failure number host key why) = 0
severity_of (Recovery event by now cause) = 0
severity_of (Step event action step now) = 0
severity_of (Message event action step recipient subject body) = 0

-- when a problem began; of other records 0
abbrev pub began_at : Rec → ℕ
began_at (Problem event now severity suppressed host trigger name tags) = now
began_at (Failure number host key why) = 0
began_at (Recovery event by now cause) = 0
began_at (Step event action step now) = 0
began_at (Message event action step recipient subject body) = 0

-- the name of a severity
abbrev pub severity_name : ℕ → List ℕ
severity_name severity =
    if severity == 0 then codes "Not classified" else if severity == 1 then codes "Information" else if severity == 2 then codes "Warning"
    else if severity == 3 then codes "Average" else if severity == 4 then codes "High" else codes "Disaster"

-- a number in two digits
abbrev pub two_digits : ℕ → List ℕ
two_digits n = digit_at n 10 ∷ digit_at n 1 ∷ []

-- a number in four digits
abbrev pub four_digits : ℕ → List ℕ
four_digits n = digit_at n 1000 ∷ digit_at n 100 ∷ digit_at n 10 ∷ digit_at n 1 ∷ []

-- the date of a clock, YYYY.MM.DD
abbrev pub date_of : Clock → List ℕ
date_of clock = four_digits clock.year ++ codes "." ++ two_digits clock.month ++ codes "." ++ two_digits clock.day

-- the time of day of a clock, HH:MM:SS
abbrev pub time_of : Clock → List ℕ
time_of clock = two_digits clock.hour ++ codes ":" ++ two_digits clock.minute ++ codes ":" ++ two_digits clock.second

-- local time less UTC, in seconds: at most 14 hours, and 0 for an offset beyond them, which no document has
abbrev pub offset_of : Conf → ℤ
offset_of conf = if nat_le (unsigned_abs conf.utc_offset) 50400 then conf.utc_offset else pos 0

-- what the local clock shows at a moment
unfoldable pub shown_at : Conf → ℕ → Clock
shown_at conf moment = clock_at (offset_of conf) (pos (moment / 1000000000))

-- a tag: its name, and where it has a value a colon and the value
abbrev pub tag_text : Tag → List ℕ
tag_text tag = if length tag.value == 0 then tag.tag else tag.tag ++ codes ":" ++ tag.value

-- a tag behind another one: a comma, a blank and the tag
abbrev pub further_tag : Tag → List ℕ
further_tag tag = codes ", " ++ tag_text tag

-- tags with a comma and a blank between each two
abbrev pub tags_text : List Tag → List ℕ
tags_text [] = []
tags_text (tag ∷ more) = tag_text tag ++ flat_map further_tag more

-- what a macro stands for
unfoldable pub word_text : Conf → Rec → Option ℕ → Word → List ℕ
word_text conf problem recovered Id = event_text_of (event_of problem)
word_text conf problem recovered Name = event_name problem
word_text conf problem recovered Severity = severity_name (severity_of problem)
word_text conf problem recovered Tags = tags_text (tags_of problem)
word_text conf problem recovered Date = date_of (shown_at conf (began_at problem))
word_text conf problem recovered Time = time_of (shown_at conf (began_at problem))
word_text conf problem recovered RecoveryDate = option_map_or (λ moment. date_of (shown_at conf moment)) recovered []
word_text conf problem recovered RecoveryTime = option_map_or (λ moment. time_of (shown_at conf moment)) recovered []
word_text conf problem recovered Host = host_of problem
word_text conf problem recovered Trigger = event_name problem

-- what the macro behind a `{` stands for, and what follows it
abbrev pub message_macro : Conf → Rec → Option ℕ → List ℕ → Option (List ℕ × List ℕ)
message_macro conf problem recovered text = option_map (λ r. (word_text conf problem recovered r.0, r.1)) (told_at recovered text)

-- a byte that stays
abbrev pub byte_text : ℕ → List ℕ
byte_text byte = byte ∷ []

-- a text with the macros of a problem replaced, or of its recovery
unfoldable pub resolved : Conf → Rec → Option ℕ → List ℕ → List ℕ
resolved conf problem recovered text = flat_map (λ piece. piece) (pieces_in byte_text (message_macro conf problem recovered) text)

-- the text of a message about a problem, or about its recovery at a moment; of another record the text as it is written
unfoldable pub message_of : Conf → Rec → List ℕ → Option ℕ → List ℕ
message_of conf problem text recovered = if is_problem problem then resolved conf problem recovered text else text
