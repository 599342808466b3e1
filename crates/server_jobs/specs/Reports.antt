-- The line that a call for alerts prints.
use Rattle.std.specs.Prelude.{◌≡◌, ◌⊎◌, ℕ, Bool, true, false, List, length}
use Rattle.std.specs.List.{filter}
use Rattle.outside.specs.Tells.{SinkTells}
use Rattle.alert_queue.specs.declared.types.Mark.{Mark}
use Rattle.alert_queue.specs.declared.types.NoteMark.{NoteMark}
use Rattle.alert_queue.specs.declared.types.Mark.TheVariants.{Done, Failed}
use Rattle.server_words.specs.Printed.{alerts_text, printed_text}
use Rattle.server_words.specs.declared.status.Counts.{Counts}
use Rattle.server_words.specs.declared.status.Status.{Status}
use Rattle.server_words.specs.declared.status.Status.TheVariants as status
use Rattle.whole_texts.specs.Writes.{Grew, GrewByFront}

-- a mark says that a note was sent
abbrev pub is_done : Mark → Bool
is_done Done = true
is_done Failed = false

-- it says that the note failed
abbrev pub is_failed : Mark → Bool
is_failed Done = false
is_failed Failed = true

-- how many notes were sent
abbrev pub count_done : List NoteMark → ℕ
count_done marks = length (filter (λ (m : NoteMark). is_done m.mark) marks)

-- how many failed
abbrev pub count_failed : List NoteMark → ℕ
count_failed marks = length (filter (λ (m : NoteMark). is_failed m.mark) marks)

-- no counts
abbrev pub nothing : Counts
nothing = record { entries = 0; problems = 0; recoveries = 0; messages = 0; bytes = 0 }

-- the line of alerts that ended well
abbrev pub ok_line : List NoteMark → List ℕ
ok_line marks = alerts_text (length marks) (count_done marks) (count_failed marks)

-- what was printed: at Ok its whole line; where that couldn't be printed its front; else the status's line or its front
abbrev pub Prints : Status → List NoteMark → SinkTells → SinkTells → Type 0
Prints status.Ok marks print print' = Grew print print' (ok_line marks)
Prints status.PrintFault marks print print' = GrewByFront print print' (ok_line marks)
Prints s marks print print' = GrewByFront print print' (printed_text s nothing)

-- what printing may make of a status: nothing, want of memory, or of Ok PrintFault
abbrev pub EndsPrinted : Status → Status → Type 0
EndsPrinted s ended = (ended ≡ s) ⊎ ((ended ≡ status.OutOfMemory) ⊎ ((s ≡ status.Ok) × (ended ≡ status.PrintFault)))

-- the line of a status
abbrev pub line_of : Status → List NoteMark → List ℕ
line_of status.Ok marks = ok_line marks
line_of s marks = printed_text s nothing

-- what a status is whose line couldn't be printed whole
abbrev pub cut_short : Status → Status
cut_short status.Ok = status.PrintFault
cut_short s = s
