-- The recipients of notes by number, and which notes have a mark.
use Rattle.std.specs.Prelude.{◌≡◌, ◌≢◌, ◌≤◌, ◌<◌, ℕ, Bool, List, [], ◌∷◌, length, map, slice_index, slice_index_or, Option, Some, None, nat_lt, ⊤, if◌then◌else◌}
use Rattle.std.specs.List.{range_with_len}
use Rattle.alert_run.specs.declared.types.Note.{Note}
use Rattle.alert_media.specs.declared.media.Media.{Media}
use Rattle.alert_queue.specs.declared.types.Kind.{Kind}
use Rattle.alert_queue.specs.declared.types.NoteMark.{NoteMark}
use Rattle.alert_marks.specs.Marks.{has_mark}
use Rattle.server_jobs.specs.Tries.{medium_for, no_note}
use Rattle.server_jobs.specs.declared.recipients.Numbered.{Numbered}

-- the recipient of a number
abbrev pub recipient_at : List (List ℕ) → ℕ → List ℕ
recipient_at recipients r = slice_index_or recipients r []

-- no recipient has two numbers
abbrev pub AreDistinct : List (List ℕ) → Type 0
AreDistinct recipients = (a b : ℕ) → a < b → b < length recipients → recipient_at recipients a ≢ recipient_at recipients b

-- the recipients of these notes have numbers, and for each note that of its recipient is told
pub record AreNumbered (recipients : List (List ℕ)) (homes : List ℕ) (notes : List Note) : Type 0 where
  pub count : length homes ≡ length notes
  pub there : (i : ℕ) → i < length notes → (slice_index homes i < length recipients) × (recipient_at recipients (slice_index homes i) ≡ (slice_index_or notes i no_note).recipient)

-- how a recipient's notes are tried
abbrev pub kind_for : Media → List ℕ → Kind
kind_for media recipient = record { limit = (medium_for media recipient).attempts; interval = (medium_for media recipient).interval }

-- recipients by number, how the notes of each are tried, and that each of these notes is told its recipient's number
pub record IsNumbering (media : Media) (notes : List Note) (n : Numbered) : Type 0 where
  pub distinct : AreDistinct n.recipients
  pub numbered : AreNumbered n.recipients n.homes.items notes
  pub kinds_are : n.kinds.items ≡ map (kind_for media) n.recipients
  pub few : length n.recipients ≤ length notes

-- for each of so many notes whether it has a mark
abbrev pub marked_in : ℕ → List NoteMark → List Bool
marked_in total marks = map (λ note. has_mark marks note) (range_with_len 1 total)

-- each mark's note is one of so many
abbrev pub AreWithin : ℕ → List NoteMark → Type 0
AreWithin total [] = ⊤
AreWithin total (mark ∷ marks) = (mark.note ≤ total) × AreWithin total marks

-- the first mark's note that isn't
abbrev pub first_above : ℕ → List NoteMark → Option ℕ
first_above total [] = None
first_above total (mark ∷ marks) = if nat_lt total mark.note then Some mark.note else first_above total marks

-- how many marks there are, where they are more than the notes, or else the first number of a note that isn't there
abbrev pub ahead_of : ℕ → List NoteMark → Option ℕ
ahead_of total marks = if nat_lt total (length marks) then Some (length marks) else first_above total marks
