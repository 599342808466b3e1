-- A queue that was made of notes.
use Rattle.std.specs.Prelude.{◌≡◌, ◌<◌, ◌+◌, ◌==◌, ◌&&◌, not, ℕ, Bool, true, false, List, [], ◌∷◌, length, slice_index_or, slice_set, if◌then◌else◌}
use Rattle.alert_queue.specs.Lanes.{Laned, with_note}
use Rattle.alert_queue.specs.Queues.{Queued, no_lane, lane_at}
use Rattle.alert_queue.specs.declared.types.Kind.{Kind}

-- a recipient's notes that have no mark, where each note's recipient is told from this note on, and whether it has one
abbrev pub notes_of : ℕ → ℕ → List ℕ → List Bool → List ℕ
notes_of r n [] marked = []
notes_of r n (home ∷ homes) [] = []
notes_of r n (home ∷ homes) (mark ∷ marked) =
    if not mark && (home == r) then n ∷ notes_of r (n + 1) homes marked else notes_of r (n + 1) homes marked

-- lanes with a note more, behind the others of its recipient; one that has a mark is left out
abbrev pub joined : List Laned → ℕ → ℕ → Bool → List Laned
joined lanes n home true = lanes
joined lanes n home false = slice_set lanes home (with_note (slice_index_or lanes home no_lane) n)

-- lanes with the notes from this one on that have no mark
abbrev pub filled : List Laned → ℕ → List ℕ → List Bool → List Laned
filled lanes n [] marked = lanes
filled lanes n (home ∷ homes) [] = lanes
filled lanes n (home ∷ homes) (mark ∷ marked) = filled (joined lanes n home mark) (n + 1) homes marked

-- the kind of a recipient's notes
abbrev pub kind_at : List Kind → ℕ → Kind
kind_at kinds r = slice_index_or kinds r (record { limit = 0; interval = 0 })

-- a queue at moment 0, of the notes that have no mark: each recipient's are in its lane, in order, and none was tried
pub record IsNew (homes : List ℕ) (marked : List Bool) (kinds : List Kind) (queue : Queued) : Type 0 where
  pub homes_are : queue.homes ≡ homes
  pub at_first : queue.now ≡ 0
  pub count : length queue.lanes ≡ length kinds
  pub lanes_are : (r : ℕ) → r < length kinds → lane_at queue r ≡ record {
    left = notes_of r 1 homes marked;
    failed = 0;
    limit = (kind_at kinds r).limit;
    interval = (kind_at kinds r).interval;
    is_open = false;
    due = 0;
  }
