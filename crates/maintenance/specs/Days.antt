-- Local days of a sort, and what is that old on them (this project's own).
use Rattle.std.specs.Prelude.{◌≡◌, ℕ, ◌*◌, ◌%◌, ◌==◌, Bool, not, ◌&&◌, ℤ, pos, ◌+ℤ◌, ◌-ℤ◌, int_lt, unsigned_abs}
use Rattle.local_time.specs.Days.{local_day, second_of}
use Rattle.local_time.specs.Clock.{second_of_day}

-- the day lies a multiple of the step after the first one, or is that one
abbrev pub IsStepFrom : ℤ → ℕ → ℤ → Type 0
IsStepFrom first step day = (times : ℕ) × (day ≡ first +ℤ pos (times * step))

-- a day of which this holds is `at` seconds old at the second
abbrev pub IsOnDay : ℤ → (ℤ → Type 0) → ℕ → ℕ → Type 0
IsOnDay offset Chosen at second = (day : ℤ) × Chosen day × (pos second ≡ second_of offset day at)

-- the same as tests: how far a day lies from the first one tells whether it lies a multiple of the step after it
abbrev pub is_step_from : ℤ → ℕ → ℤ → Bool
is_step_from first step day = not (int_lt day first) && (unsigned_abs (day -ℤ first) % step == 0)

-- and of a second itself: `at` seconds before it is the midnight of a local day that passes
abbrev pub is_on_day : ℤ → (ℤ → Bool) → ℕ → ℕ → Bool
is_on_day offset chosen at second =
    (second_of_day offset (pos second -ℤ pos at) == 0) && chosen (local_day offset (pos second -ℤ pos at))
