-- Functions of the moment and of the local clock (the Zabbix 6.0 manual, "Date and time functions").
use Rattle.std.specs.Prelude.{ℕ, ◌+◌, ◌*◌, ◌/◌, ℤ, pos, Option}
use Rattle.local_time.specs.Clock.{clock_at}
use Rattle.local_time.specs.declared.clock.Clock.{Clock}
use Rattle.history_functions.specs.Values.{whole}

-- the whole seconds of a moment
abbrev pub seconds_of : ℕ → ℕ
seconds_of now = now / 1000000000

-- what the local clock shows at a moment
abbrev pub shown : ℕ → ℤ → Clock
shown now offset = clock_at offset (pos (seconds_of now))

-- HHMMSS of a clock
abbrev pub clock_number : Clock → ℕ
clock_number clock = clock.hour * 10000 + clock.minute * 100 + clock.second

-- YYYYMMDD of a clock
abbrev pub date_number : Clock → ℕ
date_number clock = clock.year * 10000 + clock.month * 100 + clock.day

-- `now`: the seconds
abbrev pub now_of : ℕ → Option ℤ
now_of now = whole (seconds_of now)

-- `time`: HHMMSS
abbrev pub time_of : ℕ → ℤ → Option ℤ
time_of now offset = whole (clock_number (shown now offset))

-- `date`: YYYYMMDD
abbrev pub date_of : ℕ → ℤ → Option ℤ
date_of now offset = whole (date_number (shown now offset))

-- `dayofweek`: 1 for Monday to 7
abbrev pub dayofweek_of : ℕ → ℤ → Option ℤ
dayofweek_of now offset = whole (shown now offset).weekday

-- `dayofmonth`: 1 to 31
abbrev pub dayofmonth_of : ℕ → ℤ → Option ℤ
dayofmonth_of now offset = whole (shown now offset).day
