-- What contracts see of a list with room.
use Rattle.std.specs.Prelude.{ℕ, List}

-- its items in order, and how many more there is room for
pub record Roomy (T : Type 0) : Type 0 where
  pub items : List T
  pub room : ℕ
