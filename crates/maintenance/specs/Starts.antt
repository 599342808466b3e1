-- When the periods of a maintenance begin (the Zabbix 6.0 manual, "Maintenance", maintenance periods).
use Rattle.std.specs.Prelude.{◌≡◌, ℕ, ◌+◌, ◌*◌, ◌==◌, ◌≤◌, nat_le, Bool, ◌&&◌, Any, ℤ, pos, ◌-ℤ◌}
use Rattle.std.specs.List.{list_any}
use Rattle.std.specs.Ordering.{int_eq}
use Rattle.jiff_core.specs.Calendar.{days_in_month, days_from_civil, weekday_number}
use Rattle.jiff_core.specs.Date.{epoch_day}
use Rattle.jiff_core.specs.declared.civil.date.Date.{Date}
use Rattle.zbx_types.specs.declared.maintenances.Period.{Period}
use Rattle.zbx_types.specs.declared.maintenances.Period.TheVariants.{Once, Daily, Weekly, Monthly}
use Rattle.local_time.specs.Days.{local_day, monday_of}
use Rattle.maintenance.specs.Found.{some_below}
use Rattle.maintenance.specs.Days.{IsStepFrom, IsOnDay, is_step_from, is_on_day}

-- the day of `since`, and every few days after it
abbrev pub IsDailyDay : ℤ → ℕ → ℕ → ℤ → Type 0
IsDailyDay offset since every = IsStepFrom (local_day offset (pos since)) every

-- a weekday (1 for Monday to 7 for Sunday) of the week of `since`, which begins on its Monday, and of every few weeks
-- after it
abbrev pub IsWeeklyDay : ℤ → ℕ → ℕ → ℕ → ℤ → Type 0
IsWeeklyDay offset since every weekday day =
    (weekday_number day + 1 ≡ weekday)
    × IsStepFrom (monday_of (local_day offset (pos since))) (7 * every) (monday_of day)

-- a day of a month (1 for January to 12), of each year in which that month has it
abbrev pub IsMonthlyDay : ℕ → ℕ → ℤ → Type 0
IsMonthlyDay number month day =
    (date : Date) × (date.month ≡ month) × (date.day ≡ number) × (epoch_day date ≡ day)

-- at this second a period begins. Starts before `since` count for nothing, but one that is given as a moment counts
abbrev pub IsStart : ℤ → ℕ → Period → ℕ → Type 0
IsStart offset since (Once start length) second = second ≡ start
IsStart offset since (Daily every at length) second =
    (since ≤ second) × IsOnDay offset (IsDailyDay offset since every) at second
IsStart offset since (Weekly every days at length) second =
    (since ≤ second) × Any (λ weekday. IsOnDay offset (IsWeeklyDay offset since every weekday) at second) days
IsStart offset since (Monthly months number at length) second =
    (since ≤ second) × Any (λ month. IsOnDay offset (IsMonthlyDay number month) at second) months

-- how many seconds a period lasts
abbrev pub length_of : Period → ℕ
length_of (Once start length) = length
length_of (Daily every at length) = length
length_of (Weekly every days at length) = length
length_of (Monthly months number at length) = length

-- The same as tests, of a second itself.

-- the day of `since`, and every few days after it
abbrev pub is_daily_day : ℤ → ℕ → ℕ → ℤ → Bool
is_daily_day offset since every = is_step_from (local_day offset (pos since)) every

-- the weekday, in the week of `since` and every few weeks after it
abbrev pub is_weekly_day : ℤ → ℕ → ℕ → ℕ → ℤ → Bool
is_weekly_day offset since every weekday day =
    (weekday_number day + 1 == weekday)
    && is_step_from (monday_of (local_day offset (pos since))) (7 * every) (monday_of day)

-- the year has the day of the month, and it is this day
abbrev pub is_day_in : ℤ → ℕ → ℕ → ℤ → Bool
is_day_in year month number day =
    nat_le 1 month && nat_le month 12 && nat_le 1 number && nat_le number (days_in_month year month)
    && int_eq (days_from_civil year month number) day

-- the day of the month, in some year that the calendar has: from -9999 to 9999
abbrev pub is_monthly_day : ℕ → ℕ → ℤ → Bool
is_monthly_day number month day = some_below (λ place. is_day_in (pos place -ℤ pos 9999) month number day) 19999

-- at this second a period begins
abbrev pub is_start : ℤ → ℕ → Period → ℕ → Bool
is_start offset since (Once start length) second = second == start
is_start offset since (Daily every at length) second =
    nat_le since second && is_on_day offset (is_daily_day offset since every) at second
is_start offset since (Weekly every days at length) second =
    nat_le since second && list_any (λ weekday. is_on_day offset (is_weekly_day offset since every weekday) at second) days
is_start offset since (Monthly months number at length) second =
    nat_le since second && list_any (λ month. is_on_day offset (is_monthly_day number month) at second) months
