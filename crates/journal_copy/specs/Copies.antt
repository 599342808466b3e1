-- What a copy of a journal comes to: how its call ends, what it prints, and what a crash leaves of both files meanwhile.
use Rattle.std.specs.Prelude.{◌≡◌, ◌⊎◌, ◌≤◌, ◌<◌, ◌+◌, ℕ, false, List, [], length, Option, None, IfSome, IsSome, IsTrue, is_some, ⊤}
use Rattle.outside.specs.Causes.{Rose}
use Rattle.outside.specs.Disk.{DiskTells, Only, LeavesOnly}
use Rattle.outside.specs.Tells.{SinkTells}
use Rattle.zbx_types.specs.declared.base.Base.{Base}
use Rattle.intake_journal.specs.Based.{HasBase, block_bytes, is_too_large}
use Rattle.intake_journal.specs.Kept.{kept}
use Rattle.intake_journal.specs.Kept.Kept.{Unfinished}
use Rattle.intake_journal.specs.Settled.{KeepsAsOneOf}
use Rattle.intake_journal.specs.declared.making.MakeError.{MakeError}
use Rattle.intake_journal.specs.declared.making.MakeError.TheVariants as error
use Rattle.server_words.specs.Printed.{copy_text, printed_text}
use Rattle.server_words.specs.Words.{checkpoint_plan_of}
use Rattle.server_words.specs.declared.status.Counts.{Counts}
use Rattle.server_words.specs.declared.status.Status.{Status}
use Rattle.server_words.specs.declared.status.Status.TheVariants as status
use Rattle.whole_texts.specs.Writes.{Grew, GrewByFront}
use Rattle.journal_opening.specs.Recovered.{Found, FoundGroups}
use Rattle.journal_opening.specs.Unkept.{IsUnkept}
use Rattle.journal_copy.specs.State.{IsNothing, OfState, counted}

-- what the disks of a journal and of its copy told before a call, and after it
pub record Disks : Type 1 where
  pub from : DiskTells
  pub from' : DiskTells
  pub into : DiskTells
  pub into' : DiskTells

-- A state was copied, with this number and so many bytes of lines: it isn't too large, and where the disk of the copy tells,
-- that held nothing before, and each crash leaves the state, in place of entries, and no entries.
pub record IsCopied (d : Disks) (number lines : ℕ) (state : Base) : Type 0 where
  pub fits : is_too_large state ≡ false
  pub empty : IfSome d.into.bytes (λ b. b ≡ [])
  pub holds : IfSome d.into'.bytes (λ c. HasBase state c × Only c d.into')
  pub number_is : number ≡ state.number
  pub lines_are : lines ≡ state.lines

-- the copy of a state would be too large: it would have no entries, and so many bytes
pub record IsTooLarge (d : Disks) (entries bytes : ℕ) (state : Base) : Type 0 where
  pub large : IsTrue (is_too_large state)
  pub none : entries ≡ 0
  pub size : bytes ≡ length (block_bytes state) + 9
  pub empty : IfSome d.into.bytes (λ b. b ≡ [])

-- a file holds so many bytes, and some
abbrev pub HoldsSome : ℕ → List ℕ → Type 0
HoldsSome bytes b = (0 < length b) × (bytes ≡ length b)

-- a journal's file has no state that could be copied: it keeps nothing, or memory was refused
abbrev pub HasNoState : Option (List ℕ) → Status → Type 0
HasNoState file status.OutOfMemory = ⊤
HasNoState file status.NoEntries = (found : Found) × FoundGroups file found × IsNothing found
HasNoState file _ = ⊥

-- how a call whose words have a plan ends before it prints, and what it counted
abbrev pub EndsCopy : Disks → ℕ → ℕ → Status → Type 0
EndsCopy d number lines status.Ok = OfState d.from.bytes (IsCopied d number lines)
EndsCopy d number lines status.OutOfMemory = ⊤
EndsCopy d number lines status.DiskFault =
    Rose d.from.faults d.from'.faults ⊎ OfState d.from.bytes (λ state. Rose d.into.faults d.into'.faults)
EndsCopy d number lines status.NoEntries = (found : Found) × FoundGroups d.from.bytes found × IsNothing found
EndsCopy d number lines (status.NotEmpty bytes) =
    OfState d.from.bytes (λ state. IfSome d.into.bytes (HoldsSome bytes))
EndsCopy d number lines (status.Full entries bytes) = OfState d.from.bytes (IsTooLarge d entries bytes)
EndsCopy d number lines s = IsUnkept d.from d.from' s

-- how any call ends before it prints
abbrev pub EndsBy : List (List ℕ) → Disks → ℕ → ℕ → Status → Type 0
EndsBy words d number lines status.Usage = checkpoint_plan_of words ≡ None
EndsBy words d number lines status.OutOfMemory = ⊤
EndsBy words d number lines s = IsSome (checkpoint_plan_of words) × EndsCopy d number lines s

-- and how it ends then: where its line couldn't be printed the journal is copied, and the printer failed
abbrev pub EndsPrinted : List (List ℕ) → Disks → ℕ → ℕ → SinkTells → SinkTells → Status → Type 0
EndsPrinted words d number lines print print' status.PrintFault =
    Rose print.faults print'.faults × EndsBy words d number lines status.Ok
EndsPrinted words d number lines print print' s = EndsBy words d number lines s

-- no counts
abbrev pub nothing : Counts
nothing = record { entries = 0; problems = 0; recoveries = 0; messages = 0; bytes = 0 }

-- the line of a status
abbrev pub line_of : ℕ → ℕ → Status → List ℕ
line_of number lines status.Ok = copy_text number lines
line_of number lines s = printed_text s nothing

-- what was printed: at Ok its whole line; where that couldn't be printed its front; else the status's line or its front
abbrev pub Prints : ℕ → ℕ → SinkTells → SinkTells → Status → Type 0
Prints number lines print print' status.Ok = Grew print print' (copy_text number lines)
Prints number lines print print' status.PrintFault = GrewByFront print print' (copy_text number lines)
Prints number lines print print' s = GrewByFront print print' (printed_text s nothing)

-- what a status is whose line couldn't be printed whole
abbrev pub cut_short : Status → Status
cut_short status.Ok = status.PrintFault
cut_short s = s

-- what printing may make of a status: nothing, want of memory, or of Ok PrintFault
abbrev pub MayEnd : Status → Status → Type 0
MayEnd s ended = (ended ≡ s) ⊎ ((ended ≡ status.OutOfMemory) ⊎ ((s ≡ status.Ok) × (ended ≡ status.PrintFault)))

-- A crash leaves of the copy what it held, at most 9 bytes, an unfinished file, or the state that the journal's file keeps,
-- whose bytes of lines stand as 2^64 - 1 where they are more.
abbrev pub Leaves : Option (List ℕ) → List ℕ → List ℕ → Type 0
Leaves file before c =
    (c ≡ before) ⊎ ((length c ≤ 9) ⊎ ((kept c ≡ Unfinished) ⊎ OfState file (λ state. HasBase (counted state) c)))

-- What happened to the files up to a moment: of the journal's a crash left what one before it might have; of the copy's,
-- where it was all durable, what it held or what a copy makes of it. No count of faults fell.
pub record AreLeft (d : Disks) : Type 0 where
  pub journal : IfSome d.from.bytes (λ _. LeavesOnly d.from d.from' (KeepsAsOneOf d.from))
  pub copy : IfSome d.into.bytes (λ b. Only b d.into → LeavesOnly d.into d.into' (Leaves d.from.bytes b))
  pub journal_told : is_some d.from'.bytes ≡ is_some d.from.bytes
  pub copy_told : is_some d.into'.bytes ≡ is_some d.into.bytes
  pub journal_later : d.from.faults ≤ d.from'.faults
  pub copy_later : d.into.faults ≤ d.into'.faults

-- What a call for a copy comes to: why it ended so, what it printed, and what happened to the files.
pub record IsCopy (words : List (List ℕ)) (d : Disks) (print print' : SinkTells) (s : Status) : Type 0 where
  pub number : ℕ
  pub lines : ℕ
  pub ends : EndsPrinted words d number lines print print' s
  pub prints : Prints number lines print print' s
  pub left : AreLeft d

-- the status of a call whose copy wasn't made
abbrev pub status_for : MakeError → Status
status_for (error.NotEmpty bytes) = status.NotEmpty bytes
status_for (error.TooLarge bytes) = status.Full 0 bytes
status_for error.DiskFault = status.DiskFault
status_for error.OutOfMemory = status.OutOfMemory
