-- Dates by year, month and number in the month (this project's own).
use Rattle.std.specs.Prelude.{◌≡◌, ℕ, ℤ}
use Rattle.jiff_core.specs.Date.{epoch_day}
use Rattle.jiff_core.specs.declared.civil.date.Date.{Date}

-- the date has this year, month and number in the month
abbrev pub IsDateIn : ℤ → ℕ → ℕ → Date → Type 0
IsDateIn year month number date = (date.year ≡ year) × (date.month ≡ month) × (date.day ≡ number)

-- the day is that of such a date
abbrev pub IsDayIn : ℤ → ℕ → ℕ → ℤ → Type 0
IsDayIn year month number day = (date : Date) × IsDateIn year month number date × (epoch_day date ≡ day)
