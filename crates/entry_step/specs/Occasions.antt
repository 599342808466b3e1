-- The occasions on which triggers are evaluated.
use Rattle.std.specs.Prelude.{ℕ, Bool, true, false, Option}
use Rattle.zbx_types.specs.declared.entries.Entry.{Entry}
use Rattle.zbx_types.specs.declared.entries.Entry.TheVariants.{Config, Value, Tick}
use Rattle.zbx_types.specs.Entries.{moment_of}
use Rattle.entry_step.specs.Log.{tick_with}
use Rattle.entry_step.specs.declared.occasions.Occasion.{Occasion}

-- an entry is a Value
abbrev pub is_value : Entry → Bool
is_value (Config now text) = false
is_value (Value now item time value) = true
is_value (Tick now) = false

-- the occasion of an entry with a number, where this was the first Tick before it
abbrev pub occasion_of : Option ℕ → ℕ → Entry → Occasion
occasion_of first number entry =
    record { number = number; now = moment_of entry; is_value = is_value entry; tick = tick_with first entry }
