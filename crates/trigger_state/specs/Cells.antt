-- What contracts see of the cells of triggers.
use Rattle.std.specs.Prelude.{◌≡◌, ℕ, List, [], Option, slice_get}
use Rattle.std.specs.Option.{unwrap_or}
use Rattle.trigger_state.specs.declared.problems.Open.{Open}

-- rows of open problems, in the order of making, and the moment of the first Tick
pub record Kept : Type 0 where
  pub rows : List (List Open)
  pub first_tick : Option ℕ

-- the row at a place, empty where there is none
abbrev pub row_at : List (List Open) → ℕ → List Open
row_at rows id = unwrap_or (slice_get rows id) []

-- the open problems of each trigger: the row at its id
abbrev pub opens_in : Kept → ℕ → List Open
opens_in kept = row_at kept.rows

-- the open problems of each trigger are those that a function tells
abbrev pub HasOpen : Kept → (ℕ → List Open) → Type 0
HasOpen kept opens = (id : ℕ) → opens_in kept id ≡ opens id

-- nothing is open
abbrev pub none_open : ℕ → List Open
none_open id = []
