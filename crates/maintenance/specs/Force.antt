-- When a maintenance is in force (the Zabbix 6.0 manual, "Maintenance").
use Rattle.std.specs.Prelude.{ℕ, ◌+◌, ◌-◌, ◌/◌, ◌≤◌, ◌<◌, nat_le, nat_lt, Bool, ◌&&◌, ℤ, Any, IsSomeAnd}
use Rattle.std.specs.List.{list_any}
use Rattle.zbx_types.specs.Ids.{at_id}
use Rattle.zbx_types.specs.declared.conf.Conf.{Conf}
use Rattle.zbx_types.specs.declared.maintenances.Maintenance.{Maintenance}
use Rattle.zbx_types.specs.declared.maintenances.Period.{Period}
use Rattle.maintenance.specs.declared.series.Span.{Span}
use Rattle.maintenance.specs.Found.{some_below, is_some_that}
use Rattle.maintenance.specs.Days.{IsOnDay}
use Rattle.maintenance.specs.Starts.{IsStart, is_start, length_of}

-- the second is at some start, or less than the length after it
abbrev pub IsWithinLength : (ℕ → Type 0) → ℕ → ℕ → Type 0
IsWithinLength Begins length second =
    (start : ℕ) × Begins start × (start ≤ second) × (second < start + length)

-- the same of starts `at` seconds after the midnight of days of a sort, from `since` on
abbrev pub IsInDays : Span → (ℤ → Type 0) → ℕ → Type 0
IsInDays span Chosen at =
    IsWithinLength (λ second. (span.since ≤ second) × IsOnDay span.offset Chosen at second) span.length span.now

-- the second is in a period
abbrev pub IsInPeriod : ℤ → ℕ → ℕ → Period → Type 0
IsInPeriod offset since second period = IsWithinLength (IsStart offset since period) (length_of period) second

-- the second is from `since` on, before `till` and in some period
abbrev pub IsActive : ℤ → ℕ → Maintenance → Type 0
IsActive offset second m =
    (m.since ≤ second) × (second < m.till) × Any (IsInPeriod offset m.since second) m.periods

-- the maintenance at a place, counted from 1, is in force at a moment
abbrev pub InForce : Conf → ℕ → ℕ → Type 0
InForce conf place now = IsSomeAnd (at_id conf.maintenances place) (IsActive conf.utc_offset (now / 1000000000))

-- The same as tests.

-- at this second or at one of the last ones, fewer than the length ago, something begins
abbrev pub is_within_length : (ℕ → Bool) → ℕ → ℕ → Bool
is_within_length begins length second =
    some_below (λ back. nat_le back second && begins (second - back)) length

-- the second is in a period
abbrev pub is_in_period : ℤ → ℕ → ℕ → Period → Bool
is_in_period offset since second period = is_within_length (is_start offset since period) (length_of period) second

-- the second is from `since` on, before `till` and in some period
abbrev pub is_active : ℤ → ℕ → Maintenance → Bool
is_active offset second m =
    nat_le m.since second && nat_lt second m.till && list_any (is_in_period offset m.since second) m.periods

-- the maintenance at a place, counted from 1, is in force at a moment
unfoldable pub is_in_force : Conf → ℕ → ℕ → Bool
is_in_force conf place now = is_some_that (is_active conf.utc_offset (now / 1000000000)) (at_id conf.maintenances place)
