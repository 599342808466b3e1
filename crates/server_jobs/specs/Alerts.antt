-- What a call for alerts comes to.
use Rattle.std.specs.Prelude.{◌≡◌, ◌≢◌, ◌⊎◌, ◌<◌, ◌≤◌, ℕ, List, [], length, Option, Some, None, IfSome, IsSome, Ok, Err, unwrap_or, ⊤}
use Rattle.outside.specs.Causes.{Rose}
use Rattle.outside.specs.Disk.{DiskTells}
use Rattle.gated_file.specs.Groups.{kept}
use Rattle.gated_file.specs.Groups.Kept.{NotOurs, Damaged}
use Rattle.alert_marks.specs.Marks.{mark_form, marks_in, EachKeeps, KeepsAsOneOf}
use Rattle.alert_run.specs.Notes.{notes_of}
use Rattle.alert_media.specs.Media.{media_of, path_of}
use Rattle.alert_media.specs.declared.media.Media.{Media}
use Rattle.alert_queue.specs.declared.types.NoteMark.{NoteMark}
use Rattle.alert_marks.specs.declared.types.MarksError.{MarksError}
use Rattle.alert_marks.specs.declared.types.MarksError.TheVariants as error
use Rattle.alert_run.specs.declared.types.Note.{Note}
use Rattle.server_words.specs.Words.{alerts_plan_of}
use Rattle.server_words.specs.declared.words.Plan.{Plan}
use Rattle.server_words.specs.declared.status.Status.{Status}
use Rattle.server_words.specs.declared.status.Status.TheVariants as status
use Rattle.server_jobs.specs.Working.{AreMarked, EndsTries, KeepsSome}

-- the most bytes of an outbox
abbrev pub most_bytes : ℕ
most_bytes = 1073741824

-- an outbox that isn't too long has these notes
abbrev pub HasNotes : List Note → List ℕ → Type 0
HasNotes notes all = (length all ≤ most_bytes) × (notes_of all ≡ Ok notes)

-- why the notes of an outbox weren't read: its source failed; it is too long; its first bad line; or memory was refused
abbrev pub IsUnread : Option (List ℕ) → ℕ → ℕ → Status → Type 0
IsUnread lines faults faults' status.SourceFault = Rose faults faults'
IsUnread lines faults faults' status.LinesTooLong = IfSome lines (λ all. most_bytes < length all)
IsUnread lines faults faults' (status.BadLine at) = IfSome lines (λ all. (length all ≤ most_bytes) × (notes_of all ≡ Err at))
IsUnread lines faults faults' status.OutOfMemory = ⊤
IsUnread lines faults faults' _ = ⊥

-- the command of a plan for alerts
abbrev pub command_of : Plan → List ℕ
command_of plan = unwrap_or plan.command []

-- a document has these media, with the plan's command and its limit of tries for other recipients
pub record HasMedia (plan : Plan) (media : Media) (all : List ℕ) : Type 0 where
  pub entries : media_of all ≡ Ok media.entries
  pub command : media.command ≡ command_of plan
  pub attempts : media.attempts ≡ plan.attempts

-- why media weren't read: their source failed; the document's first member at fault; or memory was refused
abbrev pub IsUnknown : Option (List ℕ) → ℕ → ℕ → Status → Type 0
IsUnknown document faults faults' status.SourceFault = Rose faults faults'
IsUnknown document faults faults' (status.MediaRefused path) = IfSome document (λ all. path_of (media_of all) ≡ Some path)
IsUnknown document faults faults' status.OutOfMemory = ⊤
IsUnknown document faults faults' _ = ⊥

-- why the marks of a progress weren't read: it is another file; it is damaged; its disk failed; or memory was refused
abbrev pub IsUnopened : Option (List ℕ) → ℕ → ℕ → Status → Type 0
IsUnopened file faults faults' status.NotOurs = IfSome file (λ b. kept mark_form b ≡ NotOurs)
IsUnopened file faults faults' (status.Damaged at) = IfSome file (λ b. kept mark_form b ≡ Damaged at)
IsUnopened file faults faults' status.DiskFault = Rose faults faults'
IsUnopened file faults faults' status.OutOfMemory = ⊤
IsUnopened file faults faults' _ = ⊥

-- what a call read: the bytes of the outbox and of the document of media, with the counts of their sources before and after
pub record Reading : Type 0 where
  pub lines : Option (List ℕ)
  pub faults : ℕ
  pub faults' : ℕ
  pub document : Option (List ℕ)
  pub document_faults : ℕ
  pub document_faults' : ℕ

-- what a call was given and what it left: what it read, the disk of the progress, and what its spawner tells, or its spawners
pub record Around (T : Type 0) : Type 1 where
  pub read : Reading
  pub disk : DiskTells
  pub disk' : DiskTells
  pub spawner : T
  pub spawner' : T

-- these are the notes of the outbox, and these the media
abbrev pub HasBoth : List (List ℕ) → Reading → List Note → Media → Type 0
HasBoth words r notes media = IfSome r.lines (HasNotes notes) × ((plan : Plan) × (alerts_plan_of words ≡ Some plan) × IfSome r.document (HasMedia plan media))

-- why a call has no notes or no media: its words, its outbox or its media refused it, in this order; or memory was refused
abbrev pub HasNeither : List (List ℕ) → Reading → Status → Type 0
HasNeither words r s =
    ((s ≡ status.Usage) × (alerts_plan_of words ≡ None))
    ⊎ ((s ≡ status.OutOfMemory)
    ⊎ ((IsSome (alerts_plan_of words) × IsUnread r.lines r.faults r.faults' s)
    ⊎ (IsSome (alerts_plan_of words) × ((notes : List Note) × IfSome r.lines (HasNotes notes)) × IsUnknown r.document r.document_faults r.document_faults' s)))

-- a call that had no notes to be tried: what it read refused it, or behind that its progress
abbrev pub IsRefused : {T : Type 0} → List (List ℕ) → Around T → Status → Type 0
IsRefused words a s =
    HasNeither words a.read s
    ⊎ (((notes : List Note) × (media : Media) × HasBoth words a.read notes media) × IsUnopened a.disk.bytes a.disk.faults a.disk'.faults s)

-- why a call that had read its notes and its marks ended; one whose line couldn't be printed ended as one that ended well
abbrev pub EndsWork : {T : Type 0} → List Note → List NoteMark → List NoteMark → Around T → Status → Type 0
EndsWork notes before now a status.PrintFault = AreMarked (length notes) now
EndsWork notes before now a s = EndsTries notes before now a.disk.faults a.disk'.faults a.spawner a.spawner' s

-- a status of a call that the disk may have cut short
abbrev pub IsCut : Status → Type 0
IsCut status.DiskFault = ⊤
IsCut status.OutOfMemory = ⊤
IsCut _ = ⊥

-- a call that read its notes and the marks that were kept, and tried the notes behind these, in this way
pub record IsWorked {T : Type 0} (Works : Media → List Note → T → T → List NoteMark → List NoteMark → Type 0)
    (words : List (List ℕ)) (a : Around T) (s : Status) (marks : List NoteMark) : Type 0 where
  pub notes : List Note
  pub media : Media
  pub both : HasBoth words a.read notes media
  pub before : List NoteMark
  pub recovered : IfSome a.disk.bytes (λ b. marks_in b ≡ Some before)
  pub works : Works media notes a.spawner a.spawner' before marks
  pub why : EndsWork notes before marks a s
  -- each crash leaves the marks, unless the disk failed
  pub keeps : EachKeeps a.disk' marks ⊎ (IsCut s × Rose a.disk.faults a.disk'.faults)

-- what a call comes to that tries notes in this way: it is refused, and has no marks and tried nothing; or it worked
abbrev pub ComesTo : {T : Type 0} → (Media → List Note → T → T → List NoteMark → List NoteMark → Type 0) → List (List ℕ) → Around T → Status → List NoteMark → Type 0
ComesTo Works words a s marks =
    (IsRefused words a s × (marks ≡ []) × (a.spawner' ≡ a.spawner)) ⊎ IsWorked Works words a s marks

-- a call that opened its progress, which kept some marks, and tried notes in this way
pub record Opens {T : Type 0} (Works : List Note → T → T → List NoteMark → List NoteMark → Type 0) (notes : List Note)
    (disk disk' : DiskTells) (spawner spawner' : T) (s : Status) (marks : List NoteMark) : Type 0 where
  pub before : List NoteMark
  pub recovered : IfSome disk.bytes (λ b. marks_in b ≡ Some before)
  pub works : Works notes spawner spawner' before marks
  pub why : EndsTries notes before marks disk.faults disk'.faults spawner spawner' s
  pub keeps : s ≢ status.DiskFault → EachKeeps disk' marks

-- a file keeps what one of a disk's images does, or some of these marks from the front, or all and one more
abbrev pub KeepsThrough : DiskTells → List NoteMark → List ℕ → Type 0
KeepsThrough disk marks c = KeepsAsOneOf disk c ⊎ KeepsSome marks c

-- how a call ended whose marks weren't read
abbrev pub unopened : MarksError → Status
unopened error.NotOurs = status.NotOurs
unopened (error.Damaged at) = status.Damaged at
unopened error.DiskFault = status.DiskFault
unopened error.OutOfMemory = status.OutOfMemory
