-- Newcomers that were turned away.
use Rattle.std.specs.Prelude.{List, [], ◌∷◌, Option, Some, None}
use Rattle.std.specs.declared.snapshot.Snapshot.{Snapshot}
use Rattle.wire_mio.specs.Tables.{Table}

-- the connections that were there as the latest was turned away, and before them those of the ones before
abbrev pub turned_away : Option (Snapshot (List Table) × Snapshot Table) → List Table
turned_away None = []
turned_away (Some latest) = latest.1.value ∷ latest.0.value
