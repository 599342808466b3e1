-- Steps that discard what hasn't changed.
use Rattle.std.specs.Prelude.{ℕ, ◌+◌, ◌*◌, Bool, ◌&&◌, nat_lt, bytes_eq, List, Option, Some, None, if◌then◌else◌}
use Rattle.zbx_types.specs.Periods.{seconds_up_to}
use Rattle.prep_steps.specs.Outcomes.{kept, marked, is_short, passed}
use Rattle.prep_steps.specs.declared.memory.StepMemory.{StepMemory}
use Rattle.prep_steps.specs.declared.outcome.Outcome.TheVariants.{Value, Discard}
use Rattle.prep_steps.specs.declared.outcome.StepDone.{StepDone}

-- a value has the bytes of the last one that passed
abbrev pub is_repeated : StepMemory → List ℕ → Bool
is_repeated memory value = memory.there && bytes_eq memory.value value

-- a value is discarded, or passes and marks, or is too long
abbrev pub throttled : Bool → StepMemory → List ℕ → ℕ → StepDone
throttled drops memory value time =
    if drops then kept memory Discard
    else if is_short value then record { outcome = Value value; memory = marked time value }
    else kept memory (passed value)

-- discard unchanged (the Zabbix 6.0 manual, "Preprocessing details")
unfoldable pub unchanged : StepMemory → List ℕ → ℕ → StepDone
unchanged memory value time = throttled (is_repeated memory value) memory value time

-- the nanoseconds of a heartbeat's period, 0 where it can't be read
abbrev pub heartbeat : Option ℕ → ℕ
heartbeat None = 0
heartbeat (Some seconds) = seconds * 1000000000

-- discard unchanged with heartbeat (the Zabbix 6.0 manual, "Preprocessing details")
unfoldable pub unchanged_within : List ℕ → StepMemory → List ℕ → ℕ → StepDone
unchanged_within period memory value time =
    throttled (is_repeated memory value && nat_lt time (memory.time + heartbeat (seconds_up_to 31536000 period))) memory value time
