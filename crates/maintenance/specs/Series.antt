-- Seconds that lie a step apart (this project's own).
use Rattle.std.specs.Prelude.{◌≡◌, ℕ, ◌*◌, ◌≤◌, ℤ, pos, ◌+ℤ◌}

-- the second lies a multiple of the step after the first one, or is that one, and isn't before `since`
abbrev pub IsInSeries : ℤ → ℕ → ℕ → ℕ → Type 0
IsInSeries first step since second =
    (since ≤ second) × (times : ℕ) × (pos second ≡ first +ℤ pos (times * step))
