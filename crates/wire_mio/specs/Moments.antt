-- Moments of a wire, by two clocks.
use Rattle.std.specs.Prelude.{ℕ, ◌+◌, ◌-◌}
use Rattle.std.specs.Duration.{as_nanos}
use Rattle.wire_mio.specs.declared.clock.Reading.{Reading}

-- what both clocks showed at one time, in nanoseconds: the system's since 1970, and the monotonic one
pub record Shown : Type 0 where
  pub system : ℕ
  pub monotonic : ℕ

-- a reading in nanoseconds
abbrev pub shown : Reading → Shown
shown r = record { system = as_nanos r.system; monotonic = as_nanos r.monotonic }

-- the time since 1970 when the monotonic clock shows this: what that counted since is added to the system's time
abbrev pub time_at : Shown → ℕ → ℕ
time_at s monotonic = s.system + (monotonic - s.monotonic)
