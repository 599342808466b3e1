-- What contracts see of a queue, and what it hands out.
use Rattle.std.specs.Prelude.{◌≡◌, ◌≤◌, ◌<◌, ◌+◌, ◌-◌, ◌^◌, ℕ, max, nat_le, ◌==◌, Bool, true, false, not, ◌&&◌, ◌⊎◌, List, [], ◌∷◌, length, slice_index, slice_index_or, slice_set, if◌then◌else◌}
use Rattle.std.specs.List.{sum_by}
use Rattle.alert_queue.specs.Lanes.{Laned, greatest, first_of, IsIdle, IsDue, IsTried}
use Rattle.alert_queue.specs.declared.types.Taken.{Taken}
use Rattle.alert_queue.specs.declared.types.Taken.TheVariants.{Try, Later, Busy, Nothing}

-- each recipient's lane, the recipient of each note, from note 1 on, and the latest moment
pub record Queued : Type 0 where
  pub lanes : List Laned
  pub homes : List ℕ
  pub now : ℕ

-- what stands in the place of a lane that isn't there
abbrev pub no_lane : Laned
no_lane = record { left = []; failed = 0; limit = 0; interval = 0; is_open = false; due = 0 }

-- the lane of a recipient
abbrev pub lane_at : Queued → ℕ → Laned
lane_at queue r = slice_index_or queue.lanes r no_lane

-- the recipient of a note, where they are told from note 1 on
abbrev pub home_in : List ℕ → ℕ → ℕ
home_in homes n = slice_index homes (n - 1)

-- the recipient of a note
abbrev pub home : Queued → ℕ → ℕ
home queue n = home_in queue.homes n

-- the note's recipient is there, and the note is the first of its lane
pub record IsFirst (queue : Queued) (n : ℕ) : Type 0 where
  pub numbered : 1 ≤ n
  pub known : n ≤ length queue.homes
  pub there : home queue n < length queue.lanes
  pub first : first_of (lane_at queue (home queue n)) ≡ n

-- the note has an open try
pub record HasOpen (queue : Queued) (n : ℕ) : Type 0 where
  pub first : IsFirst queue n
  pub tried : IsTried (lane_at queue (home queue n))

-- it is the least of the first notes of the lanes that are due
pub record IsLeastDue (queue : Queued) (n : ℕ) : Type 0 where
  pub first : IsFirst queue n
  pub due : IsDue queue.now (lane_at queue (home queue n))
  pub least : (s : ℕ) → s < length queue.lanes → IsDue queue.now (lane_at queue s) → n ≤ first_of (lane_at queue s)

-- no lane is due
abbrev pub NoneDue : Queued → Type 0
NoneDue queue = (s : ℕ) → s < length queue.lanes → (IsDue queue.now (lane_at queue s) → ⊥)

-- it is the least moment at which an idle lane is due
pub record IsLeastMoment (queue : Queued) (at : ℕ) : Type 0 where
  pub none_due : NoneDue queue
  pub recipient : ℕ
  pub there : recipient < length queue.lanes
  pub idle : IsIdle (lane_at queue recipient)
  pub at_is : (lane_at queue recipient).due ≡ at
  pub least : (s : ℕ) → s < length queue.lanes → IsIdle (lane_at queue s) → at ≤ (lane_at queue s).due

-- a note has no mark, and each lane with one has an open try
pub record IsBusy (queue : Queued) : Type 0 where
  pub recipient : ℕ
  pub there : recipient < length queue.lanes
  pub some : 0 < length (lane_at queue recipient).left
  pub tried : (s : ℕ) → s < length queue.lanes → 0 < length (lane_at queue s).left → (lane_at queue s).is_open ≡ true

-- every note has its mark
abbrev pub IsOver : Queued → Type 0
IsOver queue = (s : ℕ) → s < length queue.lanes → length (lane_at queue s).left ≡ 0

-- what a queue hands out: exactly one of these holds
abbrev pub HandsOut : Queued → Taken → Type 0
HandsOut queue (Try n) = IsLeastDue queue n
HandsOut queue (Later at) = IsLeastMoment queue at
HandsOut queue Busy = IsBusy queue
HandsOut queue Nothing = IsOver queue

-- no key
abbrev pub none : ℕ
none = 2 ^ 64 - 1

-- a lane stands among those that are due, with its first note, or among those that wait, with its moment, or, where it isn't idle, in neither
abbrev pub IsFiled : ℕ → Laned → ℕ → ℕ → Type 0
IsFiled now lane ready waiting =
    (IsDue now lane × (ready ≡ first_of lane) × (ready < none) × (waiting ≡ none))
    ⊎ ((IsIdle lane × (ready ≡ none) × (waiting ≡ lane.due) × (waiting ≤ greatest))
    ⊎ ((IsIdle lane → ⊥) × (ready ≡ none) × (waiting ≡ none)))

-- each lane is filed
pub record AreFiled (now : ℕ) (lanes : List Laned) (ready waiting : List ℕ) : Type 0 where
  pub size : length waiting ≡ length ready
  pub room : length lanes ≤ length ready
  pub filed : (r : ℕ) → r < length ready → IsFiled now (slice_index_or lanes r no_lane) (slice_index ready r) (slice_index waiting r)

-- the notes of each lane are known as its recipient's
abbrev pub AreAtHome : List ℕ → List Laned → Type 0
AreAtHome homes lanes =
    (r k : ℕ) → r < length lanes → k < length (slice_index_or lanes r no_lane).left
    → (1 ≤ slice_index (slice_index_or lanes r no_lane).left k)
    × (slice_index (slice_index_or lanes r no_lane).left k ≤ length homes)
    × (slice_index homes (slice_index (slice_index_or lanes r no_lane).left k - 1) ≡ r)

-- how many notes have no mark
abbrev pub count_left : List Laned → ℕ
count_left lanes = sum_by (λ lane. length lane.left) lanes

-- no lane that waits is due
abbrev pub WaitBeyond : ℕ → List ℕ → Type 0
WaitBeyond now waiting = (r : ℕ) → r < length waiting → now < slice_index waiting r

-- how many keys are no later than a moment
abbrev pub count_due : ℕ → List ℕ → ℕ
count_due now waiting = sum_by (λ k. if nat_le k now then 1 else 0) waiting

-- two rows of keys that differ at one place, where these stand for a lane
pub record AreRefiled (now : ℕ) (lane : Laned) (place : ℕ) (ready waiting new_ready new_waiting : List ℕ) : Type 0 where
  pub key : ℕ
  pub moment : ℕ
  pub filed : IsFiled now lane key moment
  pub late : IsDue now lane → moment ≡ none
  pub ready_is : new_ready ≡ slice_set ready place key
  pub waiting_is : new_waiting ≡ slice_set waiting place moment

-- what holds of a queue's fields
pub record IsKept (lanes : List Laned) (homes ready waiting : List ℕ) (now left : ℕ) : Type 0 where
  pub filed : AreFiled now lanes ready waiting
  pub at_home : AreAtHome homes lanes
  pub left_is : left ≡ count_left lanes
  pub early : now ≤ greatest
