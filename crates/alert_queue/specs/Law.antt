-- What holds whatever a queue is asked, by any number of sessions.
use Rattle.std.specs.Prelude.{◌≡◌, ◌≤◌, ◌<◌, ◌+◌, ℕ, ◌==◌, Bool, true, false, List, [], ◌∷◌, ◌++◌, length, slice_index, if◌then◌else◌}
use Rattle.std.specs.List.{filter}
use Rattle.alert_queue.specs.Lanes.{Laned, answer}
use Rattle.alert_queue.specs.Queues.{Queued, lane_at, home, home_in}
use Rattle.alert_queue.specs.Events.{Event, Take, End, happens, MayHappen, made_by}
use Rattle.alert_queue.specs.declared.types.Taken.{Taken}
use Rattle.alert_queue.specs.declared.types.Taken.TheVariants.{Try, Later, Busy, Nothing}
use Rattle.alert_queue.specs.declared.types.NoteMark.{NoteMark}

-- an outcome is the table's, which has one for each note and number of the try, counted from 0
abbrev pub IsTold : (ℕ → ℕ → Bool) → Queued → Event → Type 0
IsTold table queue (Take now taken) = Unit {0}
IsTold table queue (End n ok now) = ok ≡ table n (lane_at queue (home queue n)).failed

-- each call may be made behind those before it, and the outcomes are the table's
abbrev pub AreAllowed : (ℕ → ℕ → Bool) → Queued → List Event → Type 0
AreAllowed table queue [] = Unit {0}
AreAllowed table queue (e ∷ es) = MayHappen queue e × IsTold table queue e × AreAllowed table (happens queue e) es

-- the queue behind some calls
abbrev pub run : Queued → List Event → Queued
run queue [] = queue
run queue (e ∷ es) = run (happens queue e) es

-- the marks that calls make, in order
abbrev pub made : Queued → List Event → List NoteMark
made queue [] = []
made queue (e ∷ es) = made_by queue e ++ made (happens queue e) es

-- those of one recipient's notes, where each note's recipient is told
abbrev pub marks_at : List ℕ → ℕ → List NoteMark → List NoteMark
marks_at homes r marks = filter (λ m. home_in homes m.note == r) marks

-- a try of this note begins
abbrev pub tries : ℕ → Event → ℕ
tries n (Take now (Try m)) = if m == n then 1 else 0
tries n (Take now (Later at)) = 0
tries n (Take now Busy) = 0
tries n (Take now Nothing) = 0
tries n (End m ok now) = 0

-- how many tries of a note the calls begin
abbrev pub count_tries : ℕ → List Event → ℕ
count_tries n [] = 0
count_tries n (e ∷ es) = tries n e + count_tries n es

-- how many tries of a recipient's notes a call begins, and how many it ends
abbrev pub begins : List ℕ → ℕ → Event → ℕ
begins homes r (Take now (Try m)) = if home_in homes m == r then 1 else 0
begins homes r (Take now (Later at)) = 0
begins homes r (Take now Busy) = 0
begins homes r (Take now Nothing) = 0
begins homes r (End m ok now) = 0

abbrev pub ends : List ℕ → ℕ → Event → ℕ
ends homes r (Take now taken) = 0
ends homes r (End m ok now) = if home_in homes m == r then 1 else 0

abbrev pub count_begun : List ℕ → ℕ → List Event → ℕ
count_begun homes r [] = 0
count_begun homes r (e ∷ es) = begins homes r e + count_begun homes r es

abbrev pub count_ended : List ℕ → ℕ → List Event → ℕ
count_ended homes r [] = 0
count_ended homes r (e ∷ es) = ends homes r e + count_ended homes r es

-- 1 where a try is open
abbrev pub open_tries : Laned → ℕ
open_tries lane = if lane.is_open then 1 else 0

-- the notes of a list rise
abbrev pub AreRising : List ℕ → Type 0
AreRising ns = (i j : ℕ) → i < j → j < length ns → slice_index ns i < slice_index ns j

-- no try has begun, and each lane's notes rise
pub record IsFresh (lane : Laned) : Type 0 where
  pub closed : lane.is_open ≡ false
  pub untried : lane.failed ≡ 0
  pub limited : 0 < lane.limit
  pub rising : AreRising lane.left

-- each lane is fresh
abbrev pub AreFresh : Queued → Type 0
AreFresh queue = (r : ℕ) → r < length queue.lanes → IsFresh (lane_at queue r)

-- the marks made for a recipient, and then what one session would make of what is left, are what one session makes of all
abbrev pub KeepsAnswers : Type 0
KeepsAnswers =
    (table : ℕ → ℕ → Bool) (queue : Queued) (es : List Event) → AreFresh queue → AreAllowed table queue es
    → (r : ℕ) → r < length queue.lanes
    → marks_at queue.homes r (made queue es) ++ answer table (lane_at (run queue es) r) ≡ answer table (lane_at queue r)

-- no note has more tries than its recipient's limit
abbrev pub KeepsLimits : Type 0
KeepsLimits =
    (table : ℕ → ℕ → Bool) (queue : Queued) (es : List Event) → AreFresh queue → AreAllowed table queue es
    → (n : ℕ) → home queue n < length queue.lanes → count_tries n es ≤ (lane_at queue (home queue n)).limit

-- of a recipient's tries all have ended, or all but one
abbrev pub KeepsOneOpen : Type 0
KeepsOneOpen =
    (table : ℕ → ℕ → Bool) (queue : Queued) (es : List Event) → AreFresh queue → AreAllowed table queue es
    → (r : ℕ) → r < length queue.lanes
    → count_begun queue.homes r es ≡ count_ended queue.homes r es + open_tries (lane_at (run queue es) r)
