-- Local days at a fixed offset (this project's own).
use Rattle.std.specs.Prelude.{ℕ, ℤ, pos, ◌+ℤ◌, ◌-ℤ◌, ◌*ℤ◌}
use Rattle.std.specs.Int.{int_div_euclid}
use Rattle.jiff_core.specs.Calendar.{weekday_number}

-- the number of the local day that a second is in, where local time is the offset ahead: 0 for 1 January 1970
abbrev pub local_day : ℤ → ℤ → ℤ
local_day offset second = int_div_euclid (second +ℤ offset) (pos 86400)

-- the second at which a local day is `at` seconds old
abbrev pub second_of : ℤ → ℤ → ℕ → ℤ
second_of offset day at = (day *ℤ pos 86400 +ℤ pos at) -ℤ offset

-- the Monday of a day's week
abbrev pub monday_of : ℤ → ℤ
monday_of day = day -ℤ pos (weekday_number day)
