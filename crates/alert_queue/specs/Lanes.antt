-- A recipient's notes, of which the first is tried.
use Rattle.std.specs.Prelude.{◌≡◌, ◌≤◌, ◌<◌, ◌+◌, ◌*◌, ℕ, zero, suc, min, ◌==◌, Bool, true, false, ◌||◌, List, [], ◌∷◌, ◌++◌, length, drop, map, slice_index, Option, Some, None, if◌then◌else◌}
use Rattle.alert_queue.specs.declared.types.Kind.{Kind}
use Rattle.alert_queue.specs.declared.types.Mark.{Mark}
use Rattle.alert_queue.specs.declared.types.Mark.TheVariants.{Done, Failed}
use Rattle.alert_queue.specs.declared.types.NoteMark.{NoteMark}

-- a recipient's notes that have no mark, in order; how often the first was tried and failed; the limit of tries and the
-- seconds behind one that failed; whether a try of the first is open; and when it is due
pub record Laned : Type 0 where
  pub left : List ℕ
  pub failed : ℕ
  pub limit : ℕ
  pub interval : ℕ
  pub is_open : Bool
  pub due : ℕ

-- a lane without notes, of a kind
abbrev pub empty_lane : Kind → Laned
empty_lane kind = record { left = []; failed = 0; limit = kind.limit; interval = kind.interval; is_open = false; due = 0 }

-- a lane with a note behind the others
abbrev pub with_note : Laned → ℕ → Laned
with_note lane note = record lane { left = lane.left ++ note ∷ [] }

-- the greatest moment, in nanoseconds
abbrev pub greatest : ℕ
greatest = 4294967295999999999

-- the note that is tried first
abbrev pub first_of : Laned → ℕ
first_of lane = slice_index lane.left 0

-- no try is open, and a note is left
pub record IsIdle (lane : Laned) : Type 0 where
  pub free : lane.is_open ≡ false
  pub some : 0 < length lane.left

-- the first note may be tried now
pub record IsDue (now : ℕ) (lane : Laned) : Type 0 where
  pub idle : IsIdle lane
  pub due : lane.due ≤ now

-- a try is open
pub record IsTried (lane : Laned) : Type 0 where
  pub tried : lane.is_open ≡ true
  pub some : 0 < length lane.left

-- a try of the first note begins
abbrev pub opened : Laned → Laned
opened lane = record lane { is_open = true }

-- the mark that a try's end brings
abbrev pub mark_of : Laned → Bool → Option Mark
mark_of lane ok = if ok then Some Done else if lane.failed + 1 == lane.limit then Some Failed else None

-- the try ends now
abbrev pub settled : Laned → Bool → ℕ → Laned
settled lane ok now =
    if ok || (lane.failed + 1 == lane.limit)
    then record lane { left = drop 1 lane.left; failed = 0; is_open = false; due = 0 }
    else record lane { failed = lane.failed + 1; is_open = false; due = min (now + lane.interval * 1000000000) greatest }

-- one of the first so many outcomes is a success
abbrev pub succeeds : (ℕ → Bool) → ℕ → Bool
succeeds outcome zero = false
succeeds outcome (suc k) = outcome k || succeeds outcome k

-- the mark of a note whose tries come out so
abbrev pub verdict : (ℕ → Bool) → ℕ → Mark
verdict outcome limit = if succeeds outcome limit then Done else Failed

-- what one session makes of a lane, where the table has the outcome of each note's tries, counted from 0
abbrev pub answer : (ℕ → ℕ → Bool) → Laned → List NoteMark
answer table lane = map (λ n. record { note = n; mark = verdict (table n) lane.limit }) lane.left

-- how many marks there are
abbrev pub count_marks : Option Mark → ℕ
count_marks None = 0
count_marks (Some mark) = 1
