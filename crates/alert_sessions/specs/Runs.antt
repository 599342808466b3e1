-- What sessions run, and what they count.
use Rattle.std.specs.Prelude.{◌≡◌, ◌≤◌, ℕ, ◌+◌, ◌-◌, ◌^◌, min, Bool, List, [], ◌∷◌, ◌++◌, slice_index, Option, Some, IfSome, All, if◌then◌else◌, ⊤}
use Rattle.std.specs.List.{sum_by, slice_get}
use Rattle.outside.specs.Spawning.{SpawnerTells, AddsRun}
use Rattle.outside.specs.declared.spawner.Run.{Run}
use Rattle.alert_run.specs.declared.types.Note.{Note}
use Rattle.alert_sessions.specs.declared.orders.Orders.{Orders}

-- a run of one of the notes: the program of its recipient, on its three texts
pub record IsRunOf (orders : Orders) (run : Run) : Type 0 where
  pub place : ℕ
  pub note : Note
  pub note_is : slice_get orders.notes place ≡ Some note
  pub program_is : slice_get orders.commands (slice_index orders.homes.items place) ≡ Some run.program
  pub args_are : run.args ≡ note.recipient ∷ note.subject ∷ note.body ∷ []

-- 1 for a try that failed
abbrev pub fails : Bool → ℕ
fails ok = if ok then 0 else 1

-- 1 for one that succeeded
abbrev pub succeeds : Bool → ℕ
succeeds ok = if ok then 1 else 0

-- how many runs failed, and how many ended well
abbrev pub count_bad : List Run → ℕ
count_bad runs = sum_by (λ run. fails run.ok) runs

abbrev pub count_good : List Run → ℕ
count_good runs = sum_by (λ run. succeeds run.ok) runs

-- what is told now was told before, with these runs behind it; one that has ceased to tell doesn't begin again
abbrev pub AddsRuns : Option (List Run) → Option (List Run) → List Run → Type 0
AddsRuns before now runs = IfSome now (λ after. (earlier : List Run) × (before ≡ Some earlier) × (after ≡ earlier ++ runs))

-- a count has risen by so many, or stands at its last value
abbrev pub RisenBy : ℕ → ℕ → ℕ → Type 0
RisenBy n before now = min (before + n) (2 ^ 64 - 1) ≤ now

-- one of the notes was tried, and it ended so
pub record Ran (orders : Orders) (spawner spawner' : SpawnerTells) (ok : Bool) : Type 0 where
  pub run : Run
  pub is : run.ok ≡ ok
  pub one : IsRunOf orders run
  pub told : AddsRun spawner.runs spawner'.runs run
  pub risen : RisenBy (fails ok) spawner.faults spawner'.faults

-- what a session ran, each for one of the notes, and counted: its failures and its successes
pub record Counts (orders : Orders) (failures failures' successes successes' : ℕ) (spawner spawner' : SpawnerTells) : Type 0 where
  pub runs : List Run
  pub each : All (IsRunOf orders) runs
  pub told : AddsRuns spawner.runs spawner'.runs runs
  pub risen : RisenBy (count_bad runs) spawner.faults spawner'.faults
  pub bad : failures' ≡ failures + count_bad runs
  pub good : successes' ≡ successes + count_good runs

-- each spawner tells now what it told before, with its runs behind it
abbrev pub EachAdds : List SpawnerTells → List SpawnerTells → List (List Run) → Type 0
EachAdds [] [] [] = ⊤
EachAdds (s ∷ before) (t ∷ now) (r ∷ runs) = AddsRuns s.runs t.runs r × EachAdds before now runs
EachAdds _ _ _ = ⊥

-- how often spawners have failed, together
abbrev pub faults_of : List SpawnerTells → ℕ
faults_of spawners = sum_by (λ spawner. spawner.faults) spawners

-- what several sessions ran and counted
pub record CountTogether (orders : Orders) (failures failures' successes successes' : ℕ) (spawners spawners' : List SpawnerTells) : Type 0 where
  pub runs : List (List Run)
  pub each : All (All (IsRunOf orders)) runs
  pub told : EachAdds spawners spawners' runs
  pub risen : RisenBy (sum_by count_bad runs) (faults_of spawners) (faults_of spawners')
  pub bad : failures' ≡ failures + sum_by count_bad runs
  pub good : successes' ≡ successes + sum_by count_good runs
