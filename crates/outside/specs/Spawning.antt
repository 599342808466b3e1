-- What spawners tell, and what a run adds to it.
use Rattle.std.specs.Prelude.{◌≡◌, ◌⊎◌, ℕ, ◌+◌, List, [], ◌∷◌, ◌++◌, Option, Some, None, IfSome}
use Rattle.outside.specs.Calls.{Calls}
use Rattle.outside.specs.declared.spawner.Run.{Run}

-- a spawner: the programs that it ran, where it tells them, and how often it has failed
pub record SpawnerTells : Type 0 where
  pub runs : Option (List Run)
  pub faults : ℕ

-- what is told now was told before, with this run behind it; one that has ceased to tell doesn't begin again
abbrev pub AddsRun : Option (List Run) → Option (List Run) → Run → Type 0
AddsRun old new run = IfSome new (λ now. (before : List Run) × (old ≡ Some before) × (now ≡ before ++ run ∷ []))

-- a spawner in memory: what it tells, its runs as calls, and how many of them found no memory to be kept
pub record Spawned : Type 0 where
  pub tells : SpawnerTells
  pub calls : Calls
  pub refused : ℕ

-- runs are told no more only where memory was refused
abbrev pub ForgetsRuns : Spawned → Spawned → Type 0
ForgetsRuns old new = new.tells.runs ≡ None → (old.tells.runs ≡ None) ⊎ (new.refused ≡ old.refused + 1)
