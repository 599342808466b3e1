-- What a call for alerts by several sessions does to its spawners and its marks.
use Rattle.std.specs.Prelude.{◌≡◌, ◌⊎◌, ◌≤◌, ◌<◌, ℕ, List, ◌++◌, length, map, All, Option, None, Some}
use Rattle.std.specs.List.{sum_by, slice_get}
use Rattle.outside.specs.Spawning.{SpawnerTells}
use Rattle.outside.specs.declared.spawner.Run.{Run}
use Rattle.alert_marks.specs.declared.types.AddError.{AddError}
use Rattle.alert_marks.specs.declared.types.AddError.TheVariants as error
use Rattle.alert_media.specs.declared.media.Media.{Media}
use Rattle.alert_queue.specs.Law.{marks_at, AreFresh}
use Rattle.alert_queue.specs.New.{notes_of, IsNew}
use Rattle.alert_queue.specs.Queues.{Queued}
use Rattle.alert_queue.specs.declared.types.NoteMark.{NoteMark}
use Rattle.alert_run.specs.declared.types.Note.{Note}
use Rattle.alert_sessions.specs.Calls.{failing, count_done}
use Rattle.alert_sessions.specs.Runs.{EachAdds, RisenBy, faults_of, count_bad, count_good}
use Rattle.alert_sessions.specs.declared.orders.Orders.{Orders}
use Rattle.server_words.specs.declared.status.Status.{Status}
use Rattle.server_words.specs.declared.status.Status.TheVariants as status
use Rattle.server_jobs.specs.Tries.{medium_for, note_at, run_with}
use Rattle.server_jobs.specs.Numbering.{AreDistinct, AreNumbered, IsNumbering, marked_in}
use Rattle.server_jobs.specs.declared.recipients.Numbered.{Numbered}

-- a run for one of the notes: the program of its recipient by the media, on its three texts
pub record IsRunFor (media : Media) (notes : List Note) (run : Run) : Type 0 where
  pub place : ℕ
  pub note : Note
  pub note_is : slice_get notes place ≡ Some note
  pub run_is : run ≡ run_with (medium_for media note.recipient).command note run.ok

-- how many tries failed at least where a note has this mark: as many as its recipient's limit where it failed
abbrev pub failures_of : Media → List Note → NoteMark → ℕ
failures_of media notes m = failing m.mark (medium_for media (note_at notes m.note).recipient).attempts

-- the limits of the notes that are marked Failed, together
abbrev pub limits_of : Media → List Note → List NoteMark → ℕ
limits_of media notes marks = sum_by (failures_of media notes) marks

-- marks made of these notes: each recipient's are of the first of those that had none, in order
pub record AreOfFirst (notes : List Note) (before made : List NoteMark) : Type 0 where
  pub known : All (λ (m : NoteMark). (1 ≤ m.note) × (m.note ≤ length notes)) made
  pub recipients : List (List ℕ)
  pub homes : List ℕ
  pub distinct : AreDistinct recipients
  pub numbered : AreNumbered recipients homes notes
  pub in_order : (r : ℕ) → r < length recipients
      → (rest : List ℕ) × (map (λ (m : NoteMark). m.note) (marks_at homes r made) ++ rest ≡ notes_of r 1 homes (marked_in (length notes) before))

-- What sessions did together: they made marks of the notes that had none, and each spawner that tells its runs tells those
-- of this call behind those before, each for one of the notes. Together at least as many failed as the limits of the notes
-- that were marked Failed, and the counts rose by as many, or stand at their last value; at least as many ended well as
-- notes were marked Done.
pub record WorkTogether (media : Media) (notes : List Note) (spawners spawners' : List SpawnerTells) (before now : List NoteMark) : Type 0 where
  pub made : List NoteMark
  pub marks_are : now ≡ before ++ made
  pub of_first : AreOfFirst notes before made
  pub runs : List (List Run)
  pub each : All (All (IsRunFor media notes)) runs
  pub told : EachAdds spawners spawners' runs
  pub risen : RisenBy (sum_by count_bad runs) (faults_of spawners) (faults_of spawners')
  pub failed : limits_of media notes made ≤ sum_by count_bad runs
  pub done : count_done made ≤ sum_by count_good runs

-- nothing was tried, or sessions tried notes
abbrev pub WorkTogetherIfAny : Media → List Note → List SpawnerTells → List SpawnerTells → List NoteMark → List NoteMark → Type 0
WorkTogetherIfAny media notes spawners spawners' before now = ((now ≡ before) × (spawners' ≡ spawners)) ⊎ WorkTogether media notes spawners spawners' before now

-- the command of a recipient
abbrev pub command_for : Media → List ℕ → List ℕ
command_for media recipient = (medium_for media recipient).command

-- a queue of the notes that have no mark, and orders with the command of each note's recipient
pub record AreOrders (media : Media) (notes : List Note) (marks : List NoteMark) (queue : Queued) (orders : Orders) : Type 0 where
  pub numbered : Numbered
  pub numbering : IsNumbering media notes numbered
  pub is_new : IsNew numbered.homes.items (marked_in (length notes) marks) numbered.kinds.items queue
  pub fresh : AreFresh queue
  pub notes_are : orders.notes ≡ notes
  pub homes_are : orders.homes.items ≡ numbered.homes.items
  pub commands_are : orders.commands ≡ map (command_for media) numbered.recipients

-- how a call ended that stopped for this, or for nothing
abbrev pub stopped_for : Option AddError → Status
stopped_for None = status.Ok
stopped_for (Some error.DiskFault) = status.DiskFault
stopped_for (Some error.OutOfMemory) = status.OutOfMemory
