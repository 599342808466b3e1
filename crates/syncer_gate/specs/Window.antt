-- The part of the marks that a claim goes over.
use Rattle.std.specs.Prelude.{◌≡◌, ◌<◌, ◌≤◌, ◌+◌, ◌^◌, ℕ, List, length, get_or}
use Rattle.syncer_gate.specs.declared.marks.Mark.{Mark}
use Rattle.syncer_gate.specs.declared.marks.Mark.TheVariants.{Pending, Applied, Taken}

-- all before a place are applied
abbrev pub AreDone : ℕ → List Mark → Type 0
AreDone low marks = (i : ℕ) → i < low → get_or marks i Pending ≡ Applied

-- all from a place on are pending
abbrev pub AreWaiting : ℕ → List Mark → Type 0
AreWaiting high marks = (i : ℕ) → high ≤ i → get_or marks i Pending ≡ Pending

-- the ids of open batches are below the next one's
abbrev pub AreBelow : ℕ → List Mark → Type 0
AreBelow next marks = (i id : ℕ) → get_or marks i Pending ≡ Taken id → id < next

-- what holds of claims at all times
pub record AreKept (first next low high : ℕ) (marks : List Mark) : Type 0 where
  pub numbers : first + length marks ≤ 2 ^ 64
  pub inside : high ≤ length marks
  pub done : AreDone low marks
  pub waiting : AreWaiting high marks
  pub below : AreBelow next marks
