-- The tries of notes: which runs they are, and what marks they come to.
use Rattle.std.specs.Prelude.{◌≡◌, ◌<◌, ◌≤◌, ℕ, ◌+◌, ◌-◌, ◌^◌, ◌==◌, min, Bool, true, false, List, [], ◌∷◌, ◌++◌, map, replicate, slice_index_or, Option, Some, IfSome, ⊤, unwrap_or, if◌then◌else◌}
use Rattle.std.specs.List.{filter}
use Rattle.outside.specs.declared.spawner.Run.{Run}
use Rattle.alert_run.specs.declared.types.Note.{Note}
use Rattle.alert_media.specs.Media.{entry_of}
use Rattle.alert_media.specs.declared.media.Media.{Media}
use Rattle.alert_media.specs.declared.media.Medium.{Medium}
use Rattle.alert_queue.specs.Queues.{home_in}
use Rattle.alert_queue.specs.declared.types.Mark.TheVariants.{Done, Failed}
use Rattle.alert_queue.specs.declared.types.NoteMark.{NoteMark}

-- a try of a note, by its number, and whether its run succeeded
pub record Attempt : Type 0 where
  pub note : ℕ
  pub ok : Bool

-- the tries of a note that was done with: how many failed, and whether one succeeded behind them
pub record Tried : Type 0 where
  pub note : ℕ
  pub failed : ℕ
  pub succeeds : Bool

-- so many tries that failed are fewer than the limit where one succeeds behind them, and else as many
abbrev pub EndsAt : ℕ → ℕ → Bool → Type 0
EndsAt limit failed true = failed < limit
EndsAt limit failed false = failed ≡ limit

-- the tries of each end with the first that succeeds, or with so many that failed
abbrev pub AreWhole : ℕ → List Tried → Type 0
AreWhole limit [] = ⊤
AreWhole limit (tried ∷ tries) = EndsAt limit tried.failed tried.succeeds × AreWhole limit tries

-- the mark that tries come to
abbrev pub mark_of : Tried → NoteMark
mark_of tried = record { note = tried.note; mark = if tried.succeeds then Done else Failed }

-- a try that failed
abbrev pub failing : ℕ → Attempt
failing note = record { note = note; ok = false }

-- the tries of a note: so many that failed, and one behind them that succeeded, if one did
abbrev pub tries_of : Tried → List Attempt
tries_of tried = replicate tried.failed (failing tried.note) ++ (if tried.succeeds then record { note = tried.note; ok = true } ∷ [] else [])

-- those of notes, note by note
abbrev pub all_tries : List Tried → List Attempt
all_tries [] = []
all_tries (tried ∷ tries) = tries_of tried ++ all_tries tries

-- so many failed tries of the first of these notes
abbrev pub first_tries : List ℕ → ℕ → List Attempt
first_tries [] failed = []
first_tries (note ∷ notes) failed = replicate failed (failing note)

-- The tries of one recipient's notes, and the marks made of them: first those of the notes that were done with, in order,
-- each note's to the first that succeeded or to the limit; and then some failed ones of the next note, fewer than that.
pub record AreInOrder (limit : ℕ) (notes : List ℕ) (tries : List Attempt) (made : List NoteMark) : Type 0 where
  pub done : List Tried
  pub left : List ℕ
  pub failed : ℕ
  pub notes_are : notes ≡ map (λ (tried : Tried). tried.note) done ++ left
  pub whole : AreWhole limit done
  pub fewer : failed < limit
  pub tries_are : tries ≡ all_tries done ++ first_tries left failed
  pub made_is : made ≡ map mark_of done

-- the tries of one recipient's notes, where each note's recipient is told
abbrev pub tries_at : List ℕ → ℕ → List Attempt → List Attempt
tries_at homes r tries = filter (λ (attempt : Attempt). home_in homes attempt.note == r) tries

-- how many tries failed
abbrev pub count_failed : List Attempt → ℕ
count_failed [] = 0
count_failed (attempt ∷ tries) = (if attempt.ok then 0 else 1) + count_failed tries

-- how messages to a recipient are tried: as its entry says, or as those of others
abbrev pub medium_for : Media → List ℕ → Medium
medium_for media recipient = unwrap_or (entry_of media.entries recipient) (record { recipient = recipient; command = media.command; attempts = media.attempts; interval = 10 })

-- what stands in the place of a note that isn't there
abbrev pub no_note : Note
no_note = record { recipient = []; subject = []; body = [] }

-- the note of a number, which counts from 1
abbrev pub note_at : List Note → ℕ → Note
note_at notes number = slice_index_or notes (number - 1) no_note

-- a run of a command with a note's three texts
abbrev pub run_with : List ℕ → Note → Bool → Run
run_with command note ok = record { program = command; args = note.recipient ∷ note.subject ∷ note.body ∷ []; ok = ok }

-- the run that a try is: its recipient's command, with the note's texts
abbrev pub run_of : Media → List Note → Attempt → Run
run_of media notes attempt = run_with (medium_for media (note_at notes attempt.note).recipient).command (note_at notes attempt.note) attempt.ok

-- what a spawner tells was told before, with these runs behind it
abbrev pub AddsRuns : Option (List Run) → Option (List Run) → List Run → Type 0
AddsRuns old new runs = IfSome new (λ now. (before : List Run) × (old ≡ Some before) × (now ≡ before ++ runs))

-- a count has risen by so many, or stands at its last value
abbrev pub RisenBy : ℕ → ℕ → ℕ → Type 0
RisenBy n before now = min (before + n) (2 ^ 64 - 1) ≤ now
