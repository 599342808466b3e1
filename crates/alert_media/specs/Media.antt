-- The document of media, and what holds for a recipient.
use Rattle.std.specs.Prelude.{◌≡◌, ◌≤◌, ℕ, Bool, ◌&&◌, nat_le, List, [], length, Option, Some, None, option_map, Result, Ok, Err, codes}
use Rattle.std.specs.List.{find}
use Rattle.std.specs.Str.{bytes_eq}
use Rattle.serde_json.specs.Data.{Data}
use Rattle.zbx_types.specs.Periods.{seconds_up_to}
use Rattle.json_form.specs.Faults.{Fault, ◌>>=◌}
use Rattle.json_form.specs.Places.{Place, ◌▸◌, spot, an_object, or_bad, given_or, text_that, free, word, number_between}
use Rattle.json_form.specs.Lists.{named_list}
use Rattle.json_form.specs.Json.{json_within}
use Rattle.alert_media.specs.declared.media.Medium.{Medium}
use Rattle.json_form.specs.declared.fault.ReadError.{ReadError}
use Rattle.json_form.specs.declared.fault.ReadError.TheVariants as read_error
use Rattle.alert_media.specs.declared.fault.MediaError.{MediaError}
use Rattle.alert_media.specs.declared.fault.MediaError.TheVariants.{Refused, OutOfMemory}

-- a text of 1 to 255 bytes
abbrev pub is_short : List ℕ → Bool
is_short text = nat_le 1 (length text) && nat_le (length text) 255

-- such a text
unfoldable pub short_text : Place → Result (List ℕ) Fault
short_text at = text_that is_short at

-- a recipient that has no entry yet
unfoldable pub new_recipient : List (List ℕ) → Place → Result (List ℕ) Fault
new_recipient taken at = short_text at >>= λ name. free taken at name

-- a period text of at most an hour, in seconds
unfoldable pub interval_of : Place → Result ℕ Fault
interval_of at = word (seconds_up_to 3600) at

-- an entry, whose recipient is none of those before it
unfoldable pub medium_of : List (List ℕ) → Place → Result Medium Fault
medium_of taken at = do
  o ← an_object at
  recipient ← new_recipient taken (o ▸ codes "recipient")
  command ← short_text (o ▸ codes "command")
  attempts ← given_or 3 (number_between 1 100) (o ▸ codes "attempts")
  interval ← given_or 10 interval_of (o ▸ codes "interval")
  Ok (record { recipient = recipient; command = command; attempts = attempts; interval = interval })

-- its attempts are from 1 to 100
abbrev pub IsLimited : Medium → Type 0
IsLimited m = (1 ≤ m.attempts) × (m.attempts ≤ 100)

-- a place where something stands
unfoldable pub given : Place → Result Place Fault
given at = or_bad at (option_map (λ d. at) at.value)

-- the entries of a JSON value: an object with a list of them
unfoldable pub entries_of : Data → Result (List Medium) Fault
entries_of d = do
  o ← an_object (spot [] d)
  at ← given (o ▸ codes "media")
  named_list (λ (m : Medium). m.recipient) medium_of [] at

-- the entries of a text of at most 16,777,216 bytes, or its first fault
abbrev pub media_of : List ℕ → Result (List Medium) Fault
media_of bytes = json_within 16777216 bytes >>= λ d. entries_of d

-- the path of a reading's fault
abbrev pub path_of : Result (List Medium) Fault → Option (List ℕ)
path_of (Ok media) = None
path_of (Err fault) = Some fault.path

-- the error names the path of the reading's fault, unless there was no memory
abbrev pub IsFaultOf : Result (List Medium) Fault → MediaError → Type 0
IsFaultOf read OutOfMemory = Unit {0}
IsFaultOf read (Refused path) = path_of read ≡ Some path

-- the same error, without its cause
abbrev pub without_cause : ReadError → MediaError
without_cause (read_error.Refused path cause) = Refused path
without_cause read_error.OutOfMemory = OutOfMemory

-- the entry of a recipient
abbrev pub entry_of : List Medium → List ℕ → Option Medium
entry_of media recipient = find (λ (m : Medium). bytes_eq m.recipient recipient) media
