-- Whether values stay away (the Zabbix 6.0 manual, "History functions", nodata).
use Rattle.std.specs.Prelude.{ℕ, nat_le, ℤ, true, false, List, [], ◌∷◌, Option, Some, None, if◌then◌else◌}
use Rattle.zbx_types.specs.Arithmetic.{truth}
use Rattle.zbx_types.specs.Moments.{seconds_after}
use Rattle.zbx_types.specs.declared.calls.Range.{Range}
use Rattle.zbx_types.specs.declared.calls.Range.TheVariants.{Count, Period}
use Rattle.zbx_types.specs.declared.entries.Stored.{Stored}

-- without a value: 1 once the period is over since the first Tick, and unknown before
abbrev pub awaited : ℕ → ℕ → Option ℕ → Option ℤ
awaited seconds now None = None
awaited seconds now (Some tick) = if nat_le (seconds_after seconds tick) now then Some (truth true) else None

-- `nodata`: 0 where the window holds a value; a range that is no period is never over
abbrev pub nodata_of : Range → List Stored → ℕ → Option ℕ → Option ℤ
nodata_of range (s ∷ ss) now first_tick = Some (truth false)
nodata_of (Count n) [] now first_tick = None
nodata_of (Period seconds) [] now first_tick = awaited seconds now first_tick
