-- What each status is to a run: one row a status. All that depends on the status is said over these rows.
use Rattle.std.specs.Prelude.{◌≡◌, ◌⊎◌, ℕ, List, Option, Some, None, Result, Ok, Err, ⊤}
use Rattle.std.specs.Option.{option_map}
use Rattle.zbx_types.specs.declared.memory.OutOfMemory.{OutOfMemory}
use Rattle.outside.specs.declared.event.WireEvent.{WireEvent}
use Rattle.outside.specs.declared.event.Trouble.{Trouble}
use Rattle.outside.specs.declared.event.Trouble.TheVariants as trouble
use Rattle.intake_front.specs.declared.answer.Stop.{Stop}
use Rattle.intake_front.specs.declared.answer.Stop.TheVariants as stop
use Rattle.server_words.specs.declared.status.Status.{Status}
use Rattle.server_words.specs.declared.status.Status.TheVariants as status

-- how the taking of events ended: it never began; the last event closed the wire; as many were taken as the plan
-- allows; the wire gave no more; the disk failed; the journal would have had so many entries and bytes, more than are
-- allowed; after any event; or so, or memory was refused for the next one
pub data Ending : Type 0 where
  never : Ending
  at_closed : Ending
  at_limit : Ending
  at_wire_fault : Ending
  at_disk_fault : Ending
  at_full : ℕ → ℕ → Ending
  anywhere : Ending
  at_refusal : Ending

-- which lines of the entries are in the outbox: there is no such run; all of them; some from the front
pub data Extent : Type 0 where
  no_lines : Extent
  all_lines : Extent
  front_lines : Extent

-- what was printed: the status's line; that line, or its front where the printer failed; its front; or the front of
-- Ok's line, since the printer failed
pub data Printing : Type 0 where
  whole_line : Printing
  own_line : Printing
  front_of_line : Printing
  front_of_ok : Printing

-- what a status is to a run: where the run began, how the taking of events ended and which lines are out; and what was
-- printed
pub record Course : Type 0 where
  pub ending : Ending
  pub out : Extent
  pub line : Printing

-- a status that ends the opening alone
abbrev pub refusal : Course
refusal = record { ending = never; out = no_lines; line = own_line }

-- a status that ends a run which has begun
abbrev pub ends : Ending → Extent → Printing → Course
ends ending out line = record { ending = ending; out = out; line = line }

-- the status of a run whose last event stopped it so
abbrev pub status_of : Stop → Status
status_of stop.Closed = status.Ok
status_of stop.DiskFault = status.DiskFault
status_of (stop.Full entries bytes) = status.Full entries bytes

-- a fault of the disk stands before one of the wire
abbrev pub behind_disk : Option Stop → Status → Status
behind_disk None other = other
behind_disk (Some stop.Closed) other = other
behind_disk (Some stop.DiskFault) other = status.DiskFault
behind_disk (Some (stop.Full entries bytes)) other = other

-- the status with which a run ends behind events that were committed together, if it does: given what stopped, how
-- the taking of events ended, and whether memory was refused as their entries were sent. Want of memory stands before
-- all, and then a fault of the disk, and of the wire.
abbrev pub ended_with : Option Stop → Result (Unit {0}) Trouble → Result (Unit {0}) OutOfMemory → Option Status
ended_with s (Err trouble.OutOfMemory) sent = Some status.OutOfMemory
ended_with s (Err trouble.Failed) (Err refused) = Some status.OutOfMemory
ended_with s (Err trouble.Failed) (Ok done) = Some (behind_disk s status.WireFault)
ended_with s (Ok enough) (Err refused) = Some status.OutOfMemory
ended_with s (Ok enough) (Ok done) = option_map status_of s

-- what each status is to a run
abbrev pub course_of : Status → Course
course_of status.Ok = ends at_closed all_lines whole_line
course_of status.PrintFault = ends at_closed all_lines front_of_ok
course_of status.TurnLimit = ends at_limit all_lines own_line
course_of status.WireFault = ends at_wire_fault all_lines own_line
course_of status.OutboxFault = ends anywhere front_lines own_line
course_of status.OutOfMemory = ends at_refusal front_lines front_of_line
course_of status.Usage = refusal
course_of status.SourceFault = refusal
course_of (status.ConfigRefused path cause) = refusal
course_of (status.PatternRefused path) = refusal
course_of (status.PatternTooLarge path) = refusal
course_of status.NotOurs = refusal
course_of (status.Damaged at) = refusal
course_of (status.OutboxAhead held lines) = refusal
course_of (status.OutboxDiffers at) = refusal
course_of status.DiskFault = ends at_disk_fault all_lines own_line
course_of (status.Full entries bytes) = ends (at_full entries bytes) all_lines own_line
course_of (status.BadLine at) = refusal
course_of (status.MediaRefused path) = refusal
course_of (status.MarksAhead marks messages) = refusal
course_of status.LinesTooLong = refusal
course_of (status.OutboxBehind held base) = refusal
course_of status.Unfinished = refusal
course_of (status.NotEmpty bytes) = refusal
course_of status.NoEntries = refusal

-- a status that names a pattern
abbrev pub NamesPattern : Status → Type 0
NamesPattern (status.PatternRefused path) = ⊤
NamesPattern (status.PatternTooLarge path) = ⊤
NamesPattern _ = ⊥

-- a status that stands before one that names what the journal or the outbox was: a fault of what is read, a pattern
-- of a configuration, or want of memory
abbrev pub YieldsTo : Status → Type 0
YieldsTo s = (s ≡ status.SourceFault) ⊎ ((s ≡ status.DiskFault) ⊎ ((s ≡ status.OutOfMemory) ⊎ NamesPattern s))

-- events were taken up to some ending
abbrev pub IsEnding : Ending → Type 0
IsEnding never = ⊥
IsEnding _ = ⊤

-- a status of a run that has begun
abbrev pub IsCourse : Status → Type 0
IsCourse s = IsEnding (course_of s).ending

-- How the taking of events ended, given how many turns the plan allows, how many events were handled, what the last
-- of them stopped, and the event after them for which memory was refused, if any. Where that is an event behind
-- others that are committed together, the disk may have refused the groups of these.
abbrev pub EndsAs : Ending → ℕ → ℕ → Option Stop → Option WireEvent → Type 0
EndsAs never turns count s lost = ⊥
EndsAs at_closed turns count s lost = (s ≡ Some stop.Closed) × (lost ≡ None)
EndsAs at_limit turns count s lost = (count ≡ turns) × (s ≡ None) × (lost ≡ None)
EndsAs at_wire_fault turns count s lost = (s ≡ None) × (lost ≡ None)
EndsAs at_disk_fault turns count s lost = (s ≡ Some stop.DiskFault) × (lost ≡ None)
EndsAs (at_full entries bytes) turns count s lost = (s ≡ Some (stop.Full entries bytes)) × (lost ≡ None)
EndsAs anywhere turns count s lost = lost ≡ None
EndsAs at_refusal turns count s lost = (s ≡ None) ⊎ ((s ≡ Some stop.DiskFault) ⊎ (lost ≡ None))

-- What is left of a wire is what stood after the events that it gave. After a call of next that failed nothing is told.
abbrev pub LeftIs : Ending → Option WireEvent → Option (List WireEvent) → List WireEvent → Type 0
LeftIs at_wire_fault lost left rest = ⊤
LeftIs at_refusal None left rest = ⊤
LeftIs _ lost left rest = left ≡ Some rest

-- a status's line must be out whole for that status to stand
abbrev pub cut_by : Printing → Status → Status
cut_by whole_line s = status.PrintFault
cut_by _ s = s

-- what a run ends with whose line couldn't be printed
abbrev pub cut_short : Status → Status
cut_short s = cut_by (course_of s).line s

-- a printing that isn't the end of another status
abbrev pub IsOwn : Printing → Type 0
IsOwn front_of_ok = ⊥
IsOwn _ = ⊤

-- a status that comes before anything is printed
abbrev pub IsUnprinted : Status → Type 0
IsUnprinted s = IsOwn (course_of s).line

-- what printing may make of a status that comes before it: nothing, or want of memory, or PrintFault of Ok
abbrev pub EndsPrinted : Status → Status → Type 0
EndsPrinted s ended =
    IsUnprinted s × ((ended ≡ s) ⊎ ((ended ≡ status.OutOfMemory) ⊎ ((ended ≡ status.PrintFault) × (s ≡ status.Ok))))
