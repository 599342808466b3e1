-- What a call for alerts does to its spawner and its marks.
use Rattle.std.specs.Prelude.{◌≡◌, ◌⊎◌, ◌<◌, ◌≤◌, ℕ, List, [], ◌∷◌, ◌++◌, true, length, take, map, Some, ⊤}
use Rattle.outside.specs.Causes.{Rose}
use Rattle.outside.specs.Spawning.{SpawnerTells}
use Rattle.alert_marks.specs.Marks.{marks_in, has_mark}
use Rattle.alert_media.specs.declared.media.Media.{Media}
use Rattle.alert_queue.specs.Law.{marks_at}
use Rattle.alert_queue.specs.Queues.{Queued, lane_at}
use Rattle.alert_queue.specs.New.{notes_of}
use Rattle.alert_queue.specs.declared.types.NoteMark.{NoteMark}
use Rattle.alert_run.specs.declared.types.Note.{Note}
use Rattle.server_words.specs.declared.status.Status.{Status}
use Rattle.server_words.specs.declared.status.Status.TheVariants as status
use Rattle.server_jobs.specs.Tries.{Attempt, AreInOrder, tries_at, count_failed, medium_for, run_of, AddsRuns, RisenBy}
use Rattle.server_jobs.specs.Numbering.{AreDistinct, AreNumbered, recipient_at, marked_in, ahead_of}

-- a file keeps some of these marks from the front
abbrev pub KeepsFront : List NoteMark → List ℕ → Type 0
KeepsFront marks c = (n : ℕ) × (marks_in c ≡ Some (take n marks))

-- a file keeps some of these marks from the front, or all and one more
abbrev pub KeepsSome : List NoteMark → List ℕ → Type 0
KeepsSome marks c = KeepsFront marks c ⊎ ((mark : NoteMark) × (marks_in c ≡ Some (marks ++ mark ∷ [])))

-- these are the marks, or the last one isn't there, since the disk failed or memory was refused
abbrev pub AreAllButLast : List NoteMark → List NoteMark → Type 0
AreAllButLast now all = (now ≡ all) ⊎ ((mark : NoteMark) × (now ++ mark ∷ [] ≡ all))

-- The tries of a call: each is a run of its recipient's command with its note's texts. For each recipient they are the
-- tries of its notes that had no mark, in order, and the marks made are what these came to. The count of the spawner rose
-- with each try that failed.
pub record Works (media : Media) (notes : List Note) (spawner spawner' : SpawnerTells) (before now : List NoteMark) : Type 0 where
  pub tries : List Attempt
  pub runs : AddsRuns spawner.runs spawner'.runs (map (run_of media notes) tries)
  pub counted : RisenBy (count_failed tries) spawner.faults spawner'.faults
  pub made : List NoteMark
  pub marks_are : AreAllButLast now (before ++ made)
  pub recipients : List (List ℕ)
  pub homes : List ℕ
  pub distinct : AreDistinct recipients
  pub numbered : AreNumbered recipients homes notes
  pub each : (r : ℕ) → r < length recipients
      → AreInOrder (medium_for media (recipient_at recipients r)).attempts (notes_of r 1 homes (marked_in (length notes) before)) (tries_at homes r tries) (marks_at homes r made)

-- nothing was tried, or notes were
abbrev pub WorksIfAny : Media → List Note → SpawnerTells → SpawnerTells → List NoteMark → List NoteMark → Type 0
WorksIfAny media notes spawner spawner' before now = ((now ≡ before) × (spawner' ≡ spawner)) ⊎ Works media notes spawner spawner' before now

-- what is said of the tries of a call, over a queue as it was at first: recipients are its lanes
pub record Worked (media : Media) (notes : List Note) (start : Queued) (spawner spawner' : SpawnerTells) (before now : List NoteMark) : Type 0 where
  pub tries : List Attempt
  pub runs : AddsRuns spawner.runs spawner'.runs (map (run_of media notes) tries)
  pub counted : RisenBy (count_failed tries) spawner.faults spawner'.faults
  pub made : List NoteMark
  pub marks_are : AreAllButLast now (before ++ made)
  pub each : (r : ℕ) → r < length start.lanes → AreInOrder (lane_at start r).limit (lane_at start r).left (tries_at start.homes r tries) (marks_at start.homes r made)

-- each of so many notes has one mark, and there are no others
pub record AreMarked (total : ℕ) (marks : List NoteMark) : Type 0 where
  pub count : length marks ≡ total
  pub each : (note : ℕ) → 1 ≤ note → note ≤ total → has_mark marks note ≡ true

-- why the tries ended: each note has its mark; there were more marks than notes, or one of a note that isn't there, and
-- nothing was tried; the disk failed; or memory was refused
abbrev pub EndsTries : {T : Type 0} → List Note → List NoteMark → List NoteMark → ℕ → ℕ → T → T → Status → Type 0
EndsTries notes before now faults faults' spawner spawner' status.Ok = AreMarked (length notes) now
EndsTries notes before now faults faults' spawner spawner' (status.MarksAhead marks messages) =
    (ahead_of (length notes) before ≡ Some marks) × (messages ≡ length notes) × (now ≡ before) × (spawner' ≡ spawner)
EndsTries notes before now faults faults' spawner spawner' status.DiskFault = Rose faults faults'
EndsTries notes before now faults faults' spawner spawner' status.OutOfMemory = ⊤
EndsTries notes before now faults faults' spawner spawner' _ = ⊥
