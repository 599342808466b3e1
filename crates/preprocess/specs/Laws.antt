-- What the cells hold behind a log of values: found by a search of the log, the newest value first.
use Rattle.std.specs.Prelude.{◌≡◌, ℕ, List, [], ◌∷◌, ◌++◌, Option, Some, None, option_map}
use Rattle.std.specs.Option.{option_map_or}
use Rattle.zbx_types.specs.Ids.{at_id}
use Rattle.zbx_types.specs.declared.conf.Conf.{Conf}
use Rattle.zbx_types.specs.declared.entries.Stored.{Stored}
use Rattle.prep_steps.specs.declared.memory.StepMemory.{StepMemory}
use Rattle.value_cache.specs.Keeps.{keep_of}
use Rattle.value_cache.specs.Laws.{Insert, kept_of as trimmed_of}
use Rattle.preprocess.specs.Ways.{memory_at}
use Rattle.preprocess.specs.Visits.{Arrival, visits_of}
use Rattle.preprocess.specs.Draft.{Kept, stored_of, visit_at, marks_after}
use Rattle.preprocess.specs.Cells.{kept_in, no_marks, AreNew, Becomes, visits_in}
use Rattle.preprocess.specs.declared.cells.Cells.{Cells}
use Rattle.preprocess.specs.declared.visit.Visit.{Visit}

-- the value of an entry, and the moment at which it was taken
pub record Taken : Type 0 where
  pub now : ℕ
  pub arrival : Arrival

-- What the steps of an item remember behind a log: where the newest value came to the item, what it left, and else what
-- they remembered before it. What came to the item hangs on what all steps remembered before.
unfoldable pub marks_behind : Conf → List Taken → ℕ → List StepMemory
marks_behind conf [] id = option_map_or no_marks (at_id conf.items id) []
marks_behind conf (t ∷ log) id =
    option_map_or (λ item. marks_after
    (visit_at (visits_of conf (λ i k. memory_at (marks_behind conf log i) k) t.arrival) id)
    (marks_behind conf log id))
    (at_id conf.items id) []

-- what one step of an item remembers behind a log, by its number
abbrev pub memory_behind : Conf → List Taken → ℕ → ℕ → StepMemory
memory_behind conf log id k = memory_at (marks_behind conf log id) k

-- the visit of an item by a value that comes behind a log
abbrev pub visit_behind : Conf → List Taken → Taken → ℕ → Option Visit
visit_behind conf log t id = visit_at (visits_of conf (memory_behind conf log) t.arrival) id

-- a value that is stored at a moment, if there is one
abbrev pub insert_of : ℕ → Option Stored → List Insert
insert_of now None = []
insert_of now (Some stored) = record { stored = stored; now = now } ∷ []

-- all values that a log stores of an item, each with the moment at which it was stored, the newest first
unfoldable pub inserts_behind : Conf → List Taken → ℕ → List Insert
inserts_behind conf [] id = []
inserts_behind conf (t ∷ log) id =
    insert_of t.now (stored_of (visit_behind conf log t id)) ++ inserts_behind conf log id

-- what an item keeps behind a log: of these values what later windows can ask for
abbrev pub kept_behind : Conf → List Taken → ℕ → Kept
kept_behind conf log id =
    record { keep = keep_of conf id; values = trimmed_of (keep_of conf id) (inserts_behind conf log id) }

-- the cells hold, of each item, what the search of the log finds
pub record HoldLog (conf : Conf) (log : List Taken) (cells : Cells) : Type 0 where
  pub kept : (id : ℕ) → at_id (kept_in cells) id ≡ option_map (λ item. kept_behind conf log id) (at_id conf.items id)
  pub memories : (id : ℕ)
      → at_id cells.memories.items id ≡ option_map (λ item. marks_behind conf log id) (at_id conf.items id)

-- new cells hold the log without values
abbrev pub HoldNothing : Type 0
HoldNothing = (conf : Conf) (cells : Cells) → AreNew conf cells → HoldLog conf [] cells

-- cells that hold a log, behind one more value, hold the log with that value
abbrev pub HoldOneMore : Type 0
HoldOneMore = (conf : Conf) (log : List Taken) (t : Taken) (before after : Cells) → HoldLog conf log before
    → Becomes t.now (visits_in conf before t.arrival) before after
    → HoldLog conf (t ∷ log) after
