-- Values where they stand.
use Rattle.std.specs.Prelude.{List, ⊤}
use Rattle.zbx_types.specs.declared.entries.Stored.{Stored}
use Rattle.value_cache.specs.Beside.{shown, IsSeenIn}
use Rattle.value_cache.specs.declared.values.Standing.{Standing}
use Rattle.value_cache.specs.declared.values.Standing.TheVariants.{Plain, Cached}

-- the values that stand there
abbrev pub standing : Standing → List Stored
standing (Plain values) = values.now
standing (Cached cache window) = shown window

-- the tokens are of the cache
abbrev pub IsThere : Standing → Type 0
IsThere (Plain values) = ⊤
IsThere (Cached cache window) = IsSeenIn cache.now window
