-- Bytes in two parts.
use Rattle.std.specs.Prelude.{ℕ, List}

-- a front that stays, and what was written behind it
pub record Parted : Type 0 where
  pub front : List ℕ
  pub back : List ℕ
