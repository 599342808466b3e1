-- Periods of time in the document, and lists of 1 to 16.
use Rattle.std.specs.Prelude.{ℕ, Bool, ◌||◌, ◌==◌, nat_le, Result}
use Rattle.zbx_types.specs.Periods.{seconds_up_to}
use Rattle.zbx_types.specs.declared.causes.Cause.TheVariants.{BadMember}
use Rattle.json_form.specs.Faults.{Fault, ◌>>=◌}
use Rattle.json_form.specs.Places.{Place, word, passing}
use Rattle.json_form.specs.Lists.{at_most, not_empty}

-- a period of at most so long that passes a test
unfoldable pub period_that : (ℕ → Bool) → ℕ → Place → Result ℕ Fault
period_that test most at = word (seconds_up_to most) at >>= λ seconds. passing test at seconds

-- 300 seconds to 31 days: how long a maintenance is in force
unfoldable pub length_of : Place → Result ℕ Fault
length_of = period_that (λ seconds. nat_le 300 seconds) 2678400

-- 60 seconds to 7 days: how long a step of an escalation lasts
unfoldable pub step_duration_of : Place → Result ℕ Fault
step_duration_of = period_that (λ seconds. nat_le 60 seconds) 604800

-- the same, or 0
unfoldable pub operation_duration_of : Place → Result ℕ Fault
operation_duration_of = period_that (λ seconds. seconds == 0 || nat_le 60 seconds) 604800

-- 1 second to 1 day: after how long an agent is to bring the next value of an item
unfoldable pub item_delay_of : Place → Result ℕ Fault
item_delay_of = period_that (λ seconds. nat_le 1 seconds) 86400

-- a place whose list has 1 to 16 elements
unfoldable pub one_to_16 : Place → Result Place Fault
one_to_16 at = not_empty at >>= λ some. at_most 16 BadMember some
