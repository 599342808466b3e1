-- A count that only contracts read.
use Rattle.std.specs.Prelude.{ℕ, ◌+◌, Option, Some, None}
use Rattle.std.specs.declared.snapshot.Snapshot.{Snapshot}

-- one more than the count before, or 0 where there is none
abbrev pub one_more : Option (Snapshot ℕ) → ℕ
one_more None = 0
one_more (Some before) = before.value + 1
