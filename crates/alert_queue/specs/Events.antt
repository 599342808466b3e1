-- The calls of a queue, with what they answered.
use Rattle.std.specs.Prelude.{◌≡◌, ◌≤◌, ◌<◌, ◌+◌, ◌-◌, ℕ, max, Bool, List, [], ◌∷◌, ◌++◌, slice_index, slice_set, Option, Some, None}
use Rattle.alert_queue.specs.Lanes.{Laned, opened, settled, mark_of}
use Rattle.alert_queue.specs.Queues.{Queued, lane_at, home, HandsOut, HasOpen}
use Rattle.alert_queue.specs.declared.types.Taken.{Taken}
use Rattle.alert_queue.specs.declared.types.Taken.TheVariants.{Try, Later, Busy, Nothing}
use Rattle.alert_queue.specs.declared.types.Mark.{Mark}
use Rattle.alert_queue.specs.declared.types.NoteMark.{NoteMark}

-- take handed this out at a moment; done was told at a moment how the try of a note ended
pub data Event : Type 0 where
  Take : (now : ℕ) (taken : Taken) → Event
  End : (note : ℕ) (ok : Bool) (now : ℕ) → Event

-- a moment counts as at least the latest
abbrev pub moved : Queued → ℕ → Queued
moved queue now = record queue { now = max queue.now now }

-- with another lane for a recipient
abbrev pub with_lane : Queued → ℕ → Laned → Queued
with_lane queue r lane = record queue { lanes = slice_set queue.lanes r lane }

-- what was handed out is tried
abbrev pub handed : Queued → Taken → Queued
handed queue (Try n) = with_lane queue (home queue n) (opened (lane_at queue (home queue n)))
handed queue (Later at) = queue
handed queue Busy = queue
handed queue Nothing = queue

-- a try ends at the queue's latest moment
abbrev pub ended : Queued → ℕ → Bool → Queued
ended queue n ok = with_lane queue (home queue n) (settled (lane_at queue (home queue n)) ok queue.now)

-- the queue behind a call
abbrev pub happens : Queued → Event → Queued
happens queue (Take now taken) = handed (moved queue now) taken
happens queue (End n ok now) = ended (moved queue now) n ok

-- the call may be made, and answers this
abbrev pub MayHappen : Queued → Event → Type 0
MayHappen queue (Take now taken) = HandsOut (moved queue now) taken
MayHappen queue (End n ok now) = HasOpen queue n

-- the note with its mark, where there is one
abbrev pub marked : ℕ → Option Mark → List NoteMark
marked n None = []
marked n (Some mark) = record { note = n; mark = mark } ∷ []

-- the mark that a call makes
abbrev pub made_by : Queued → Event → List NoteMark
made_by queue (Take now taken) = []
made_by queue (End n ok now) = marked n (mark_of (lane_at queue (home queue n)) ok)
