-- What entries have in common.
use Rattle.std.specs.Prelude.{ℕ}
use Rattle.zbx_types.specs.declared.entries.Entry.{Entry}
use Rattle.zbx_types.specs.declared.entries.Entry.TheVariants.{Config, Value, Tick}

-- the moment at which an entry was taken
abbrev pub moment_of : Entry → ℕ
moment_of (Config now text) = now
moment_of (Value now item time value) = now
moment_of (Tick now) = now
