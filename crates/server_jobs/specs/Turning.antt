-- A queue on its way: a try of a note begins, and ends.
use Rattle.std.specs.Prelude.{◌≡◌, ◌<◌, ◌≤◌, ℕ, ◌*◌, ◌-◌, ◌==◌, not, Bool, false, List, ◌++◌, length, Option, Some, None, Result, Ok, Err}
use Rattle.std.specs.List.{sum_by, list_any}
use Rattle.outside.specs.Causes.{Rose}
use Rattle.outside.specs.Spawning.{SpawnerTells, AddsRun}
use Rattle.alert_marks.specs.Marks.{has_mark, AreOnce}
use Rattle.alert_marks.specs.declared.types.AddError.{AddError}
use Rattle.alert_queue.specs.Lanes.{Laned, opened, IsIdle, mark_of}
use Rattle.alert_queue.specs.Queues.{Queued, lane_at, home, IsFirst, IsOver}
use Rattle.alert_queue.specs.Events.{End, with_lane, happens, marked}
use Rattle.alert_queue.specs.declared.types.Mark.{Mark}
use Rattle.alert_queue.specs.declared.types.NoteMark.{NoteMark}
use Rattle.alert_run.specs.declared.types.Note.{Note}
use Rattle.server_jobs.specs.Tries.{run_with}
use Rattle.server_jobs.specs.Numbering.{AreWithin}

-- no try is open
abbrev pub NoneOpen : Queued → Type 0
NoneOpen queue = (r : ℕ) → r < length queue.lanes → (lane_at queue r).is_open ≡ false

-- a try of a note begins at a moment
abbrev pub begun : Queued → ℕ → ℕ → Queued
begun queue now n = with_lane (record queue { now = now }) (home queue n) (opened (lane_at queue (home queue n)))

-- a try of this note began, which was the first that is left of its recipient's, and due
pub record Begins (queue queue' : Queued) (n : ℕ) : Type 0 where
  pub first : IsFirst queue n
  pub idle : IsIdle (lane_at queue (home queue n))
  pub now : ℕ
  pub due : (lane_at queue (home queue n)).due ≤ now
  pub queue_is : queue' ≡ begun queue now n

-- what is handed out next: a note, of which a try begins, or none where none is left
abbrev pub Continues : Queued → Queued → Option ℕ → Type 0
Continues queue queue' (Some n) = Begins queue queue' n
Continues queue queue' None = IsOver queue

-- the open try of a note was a run of a command with its texts, and ended; the note has its mark then, or none yet
pub record Ends (command : List ℕ) (note : Note) (n : ℕ) (spawner spawner' : SpawnerTells) (queue queue' : Queued) (mark : Option Mark) : Type 0 where
  pub ok : Bool
  pub now : ℕ
  pub run : AddsRun spawner.runs spawner'.runs (run_with command note ok)
  pub later : spawner.faults ≤ spawner'.faults
  pub rose : ok ≡ false → Rose spawner.faults spawner'.faults
  pub queue_is : queue' ≡ happens queue (End n ok now)
  pub mark_is : mark ≡ mark_of (lane_at queue (home queue n)) ok

-- marks with this one, where there is one and it was added
abbrev pub with_mark : List NoteMark → ℕ → Option Mark → Result (Unit {0}) AddError → List NoteMark
with_mark list n mark (Ok done) = list ++ marked n mark
with_mark list n mark (Err error) = list

-- exactly the notes that aren't left in a queue's lanes have marks, each one, and there are no others
pub record IsMarkedSo (queue : Queued) (list : List NoteMark) : Type 0 where
  pub agrees : (n : ℕ) → 1 ≤ n → n ≤ length queue.homes → has_mark list n ≡ not (list_any (λ k. k == n) (lane_at queue (home queue n)).left)
  pub once : AreOnce list
  pub within : AreWithin (length queue.homes) list
  pub inside : (n : ℕ) → 1 ≤ n → n ≤ length queue.homes → home queue n < length queue.lanes

-- how much is left to be tried
abbrev pub weigh_lane : Laned → ℕ
weigh_lane lane = lane.limit * length lane.left - lane.failed

abbrev pub weigh : Queued → ℕ
weigh queue = sum_by weigh_lane queue.lanes
