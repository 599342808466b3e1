-- What a local clock shows (the calendar is the proleptic Gregorian one; the fixed offset is this project's own).
use Rattle.std.specs.Prelude.{◌≡◌, ℕ, zero, suc, ◌+◌, ◌*◌, ◌/◌, ◌%◌, ◌<◌, ℤ, pos, ◌+ℤ◌, ◌-ℤ◌, int_lt, unsigned_abs, if◌then◌else◌}
use Rattle.std.specs.Int.{int_rem_euclid}
use Rattle.jiff_core.specs.Calendar.{IsCivilDate, days_from_civil, weekday_number}
use Rattle.local_time.specs.declared.clock.Clock.{Clock}
use Rattle.local_time.specs.Days.{local_day}

-- the seconds since the midnight of the local day
abbrev pub second_of_day : ℤ → ℤ → ℕ
second_of_day offset second = unsigned_abs (int_rem_euclid (second +ℤ offset) (pos 86400))

-- the first year, from this one on and among so many more, that ends after a day
unfoldable pub year_from : ℕ → ℕ → ℤ → ℕ
year_from zero year day = year
year_from (suc more) year day =
    if int_lt day (days_from_civil (pos (suc year)) 1 1) then year else year_from more (suc year) day

-- the first month of a year, in the same way
unfoldable pub month_from : ℕ → ℕ → ℕ → ℤ → ℕ
month_from zero year month day = month
month_from (suc more) year month day =
    if int_lt day (days_from_civil (pos year) (suc month) 1) then month else month_from more year (suc month) day

-- the year of a day: moments lie in the years from 1969 to 2106
abbrev pub year_of : ℤ → ℕ
year_of day = year_from 200 1969 day

-- its month, 1 for January
abbrev pub month_of : ℤ → ℕ
month_of day = month_from 11 (year_of day) 1 day

-- its number in the month: 1 and the days since the first of the month
abbrev pub day_of : ℤ → ℕ
day_of day = unsigned_abs (day -ℤ days_from_civil (pos (year_of day)) (month_of day) 1) + 1

-- the clock of a day that is so many seconds old; 1 is Monday
abbrev pub clock_of : ℤ → ℕ → Clock
clock_of day old = record {
  year = year_of day;
  month = month_of day;
  day = day_of day;
  weekday = weekday_number day + 1;
  hour = old / 3600;
  minute = old % 3600 / 60;
  second = old % 60;
}

-- what a clock that is the offset ahead of UTC shows at a second
abbrev pub clock_at : ℤ → ℤ → Clock
clock_at offset second = clock_of (local_day offset second) (second_of_day offset second)

-- the calendar has the clock's date, and it is that of the day
abbrev pub ShowsDay : ℤ → Clock → Type 0
ShowsDay day clock =
    IsCivilDate (pos clock.year) clock.month clock.day
    × (days_from_civil (pos clock.year) clock.month clock.day ≡ day)

-- the clock's time of day is so many seconds after midnight
abbrev pub ShowsTime : ℕ → Clock → Type 0
ShowsTime old clock =
    (clock.hour < 24) × (clock.minute < 60) × (clock.second < 60)
    × (clock.hour * 3600 + clock.minute * 60 + clock.second ≡ old)
