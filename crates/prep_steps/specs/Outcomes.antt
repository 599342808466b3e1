-- What comes of a step.
use Rattle.std.specs.Prelude.{ℕ, nat_le, List, [], length, if◌then◌else◌, codes, slice_index_or, Bool, true, false}
use Rattle.zbx_types.specs.Limits.{longest_value}
use Rattle.prep_steps.specs.declared.memory.StepMemory.{StepMemory}
use Rattle.prep_steps.specs.declared.outcome.Outcome.{Outcome}
use Rattle.prep_steps.specs.declared.outcome.Outcome.TheVariants.{Value, Fail}
use Rattle.prep_steps.specs.declared.outcome.StepDone.{StepDone}

-- a parameter by its place, the empty text where it is missing
abbrev pub parameter : List (List ℕ) → ℕ → List ℕ
parameter params place = slice_index_or params place []

-- an outcome that leaves the memory as it was
abbrev pub kept : StepMemory → Outcome → StepDone
kept memory outcome = record { outcome = outcome; memory = memory }

-- the memory of a step that no value has marked
abbrev pub unmarked : StepMemory
unmarked = record { there = false; time = 0; value = [] }

-- the memory of a value that marked the step
abbrev pub marked : ℕ → List ℕ → StepMemory
marked time value = record { there = true; time = time; value = value }

-- a value has at most 65,535 bytes
abbrev pub is_short : List ℕ → Bool
is_short value = nat_le (length value) longest_value

-- the text of the failure of a longer one
abbrev pub too_long : List ℕ
too_long = codes "too long"

-- a result goes on, and a longer one fails
abbrev pub passed : List ℕ → Outcome
passed value = if is_short value then Value value else Fail too_long
