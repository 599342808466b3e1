-- Steps on the change of a number.
use Rattle.std.specs.Prelude.{ℕ, ◌-◌, ◌*◌, ◌/◌, ◌^◌, nat_le, List, Option, Some, None, if◌then◌else◌, ℤ, pos, ◌-ℤ◌, int_lt, unsigned_abs}
use Rattle.zbx_types.specs.Arithmetic.{difference_of, in_range}
use Rattle.zbx_types.specs.Numerals.{read_number}
use Rattle.zbx_types.specs.Written.{written}
use Rattle.prep_steps.specs.Numbering.{number_of, no_number, result_of}
use Rattle.prep_steps.specs.Outcomes.{kept, marked}
use Rattle.prep_steps.specs.declared.memory.StepMemory.{StepMemory}
use Rattle.prep_steps.specs.declared.outcome.Outcome.{Outcome}
use Rattle.prep_steps.specs.declared.outcome.Outcome.TheVariants.{Discard}
use Rattle.prep_steps.specs.declared.outcome.StepDone.{StepDone}

-- the previous number, where there is one
unfoldable pub previous : StepMemory → Option ℤ
previous memory = if memory.there then read_number memory.value else None

-- an outcome of a number that becomes the previous one
abbrev pub with_number : ℕ → ℤ → Outcome → StepDone
with_number time z outcome = record { outcome = outcome; memory = marked time (written z) }

-- the change of a number from the previous one; the first number has none and is discarded
abbrev pub change_from : Option ℤ → ℤ → Outcome
change_from None z = Discard
change_from (Some before) z = result_of (difference_of z before)

-- the simple change of the number that a value writes, without which the step fails
abbrev pub changed_number : StepMemory → ℕ → Option ℤ → StepDone
changed_number memory time None = kept memory no_number
changed_number memory time (Some z) = with_number time z (change_from (previous memory) z)

-- the simple change (the Zabbix 6.0 manual, "Preprocessing details")
unfoldable pub changed : StepMemory → List ℕ → ℕ → StepDone
changed memory value time = changed_number memory time (number_of value)

-- how much a number that isn't smaller has grown
abbrev pub growth : ℤ → ℤ → ℕ
growth before z = unsigned_abs (z -ℤ before)

-- the growth over so many nanoseconds, per second, where 10^9 times it fits a signed number of 128 bits
unfoldable pub rate : ℤ → ℤ → ℕ → Option ℤ
rate before z nanoseconds =
    if nat_le (growth before z * 1000000000) (2 ^ 127 - 1) then in_range (pos (growth before z * 1000000000 / nanoseconds))
    else None

-- the rate from the previous number: a number that isn't later is discarded and passed over, and a smaller one is discarded
abbrev pub rate_from : Option ℤ → StepMemory → ℕ → ℤ → StepDone
rate_from None memory time z = with_number time z Discard
rate_from (Some before) memory time z =
    if nat_le time memory.time then kept memory Discard
    else if int_lt z before then with_number time z Discard
    else with_number time z (result_of (rate before z (time - memory.time)))

-- the change per second of the number that a value writes, without which the step fails
abbrev pub rated_number : StepMemory → ℕ → Option ℤ → StepDone
rated_number memory time None = kept memory no_number
rated_number memory time (Some z) = rate_from (previous memory) memory time z

-- the change per second (the Zabbix 6.0 manual, "Preprocessing details")
unfoldable pub rated : StepMemory → List ℕ → ℕ → StepDone
rated memory value time = rated_number memory time (number_of value)
