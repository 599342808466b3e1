-- What one call makes of a queue, by any number of sessions.
use Rattle.std.specs.Prelude.{◌≡◌, ◌≤◌, ◌<◌, ℕ, ◌+◌, Bool, true, false, List, ◌++◌, length, map, slice_index, All, if◌then◌else◌}
use Rattle.std.specs.List.{sum_by}
use Rattle.alert_queue.specs.Lanes.{Laned}
use Rattle.alert_queue.specs.Queues.{Queued, lane_at, home}
use Rattle.alert_queue.specs.Events.{Take, happens, MayHappen}
use Rattle.alert_queue.specs.declared.types.Taken.{Taken}
use Rattle.alert_queue.specs.declared.types.Taken.TheVariants as taken
use Rattle.alert_sessions.specs.declared.state.Next.{Next}
use Rattle.alert_sessions.specs.declared.state.Next.TheVariants as next
use Rattle.alert_queue.specs.Law.{marks_at, AreFresh}
use Rattle.alert_queue.specs.declared.types.Mark.{Mark}
use Rattle.alert_queue.specs.declared.types.Mark.TheVariants.{Done, Failed}
use Rattle.alert_queue.specs.declared.types.NoteMark.{NoteMark}
use Rattle.alert_marks.specs.Marks.{has_mark}

-- the notes of marks
abbrev pub notes_of : List NoteMark → List ℕ
notes_of marks = map (λ m. m.note) marks

-- how many tries of a note with this mark failed at least, where its recipient has a limit
abbrev pub failing : Mark → ℕ → ℕ
failing Done limit = 0
failing Failed limit = limit

abbrev pub failures_of : Queued → NoteMark → ℕ
failures_of start m = failing m.mark (lane_at start (home start m.note)).limit

-- 1 for a mark that says Done
abbrev pub done_of : Mark → ℕ
done_of Done = 1
done_of Failed = 0

-- the limits of the notes that are marked Failed, together
abbrev pub limits_of : Queued → List NoteMark → ℕ
limits_of start marks = sum_by (failures_of start) marks

-- how many are marked Done
abbrev pub count_done : List NoteMark → ℕ
count_done marks = sum_by (λ m. done_of m.mark) marks

-- how many tries of notes without a mark have failed
abbrev pub count_failed : List Laned → ℕ
count_failed lanes = sum_by (λ lane. lane.failed) lanes

-- no note that a queue has left is marked
abbrev pub AreUnmarked : Queued → List NoteMark → Type 0
AreUnmarked queue marks =
    (r k : ℕ) → r < length queue.lanes → k < length (lane_at queue r).left → has_mark marks (slice_index (lane_at queue r).left k) ≡ false

-- the mark is of one of the notes, whose recipient is there
pub record IsKnown (start : Queued) (m : NoteMark) : Type 0 where
  pub numbered : 1 ≤ m.note
  pub known : m.note ≤ length start.homes
  pub there : home start m.note < length start.lanes

-- the marks are of notes of the queue; those of each recipient are of its first notes, in order
pub record AreInOrder (start : Queued) (made : List NoteMark) : Type 0 where
  pub each : All (IsKnown start) made
  pub in_order : (r : ℕ) → r < length start.lanes → (rest : List ℕ) × (notes_of (marks_at start.homes r made) ++ rest ≡ (lane_at start r).left)

-- the notes that these marks leave to each recipient are those that the queue has left, of the same notes and limits
pub record Agrees (start queue : Queued) (made : List NoteMark) : Type 0 where
  pub homes : queue.homes ≡ start.homes
  pub size : length queue.lanes ≡ length start.lanes
  pub limits : (r : ℕ) → (lane_at queue r).limit ≡ (lane_at start r).limit
  pub notes : (r : ℕ) → r < length queue.lanes → notes_of (marks_at start.homes r made) ++ (lane_at queue r).left ≡ (lane_at start r).left

-- What holds whenever the lock is free, in a call that began with this queue, of notes without a mark: as many tries failed as the
-- limits of the notes that it marked Failed, and those of the notes without a mark; as many succeeded as it marked Done;
-- and until the call is stopped, marks and queue agree.
pub record IsCall (start queue : Queued) (kept list : List NoteMark) (failures successes : ℕ) (stopped : Bool) : Type 0 where
  pub made : List NoteMark
  pub list_is : list ≡ kept ++ made
  pub fresh : AreFresh start
  pub unmarked : AreUnmarked start kept
  pub order : AreInOrder start made
  pub failed : limits_of start made + (if stopped then 0 else count_failed queue.lanes) ≤ failures
  pub done : count_done made ≤ successes
  pub agree : stopped ≡ false → Agrees start queue made

-- what a session is told to do where this was handed out
abbrev pub next_of : Taken → Next
next_of (taken.Try note) = next.Try note
next_of (taken.Later at) = next.Rest at
next_of taken.Busy = next.Wait
next_of taken.Nothing = next.End

-- a session was told what the queue hands out at a moment
abbrev pub HandedOut : Queued → ℕ → Queued → Next → Type 0
HandedOut queue now queue' told = (what : Taken) × MayHappen queue (Take now what) × (queue' ≡ happens queue (Take now what)) × (told ≡ next_of what)

-- every note that was left has its mark
abbrev pub EachMarked : Queued → List NoteMark → Type 0
EachMarked start made = (r : ℕ) → r < length start.lanes → notes_of (marks_at start.homes r made) ≡ (lane_at start r).left

-- once the call has ended, with every note marked or not
pub record IsCallAtEnd (start : Queued) (kept list : List NoteMark) (failures successes : ℕ) (all : Bool) : Type 0 where
  pub made : List NoteMark
  pub list_is : list ≡ kept ++ made
  pub order : AreInOrder start made
  pub failed : limits_of start made ≤ failures
  pub done : count_done made ≤ successes
  pub marked : all ≡ true → EachMarked start made
