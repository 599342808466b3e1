-- Which calls of the objects in memory fail.
use Rattle.std.specs.Prelude.{◌≡◌, ◌⊎◌, ℕ, ◌+◌, ◌-◌, ◌^◌, min, Bool, true, ◌==◌, List, Result, OnOk, OnErr, IsErr}
use Rattle.std.specs.List.{list_any}

-- the calls of an object: the numbers of those that are to fail, counted from 1, and how many there were
pub record Calls : Type 0 where
  pub fails : List ℕ
  pub made : ℕ

-- there was no call yet
abbrev pub no_calls : List ℕ → Calls
no_calls fails = record { fails = fails; made = 0 }

-- there was one call more; the count stays at 2^64 - 1
abbrev pub one_more : Calls → Calls
one_more calls = record { fails = calls.fails; made = min (calls.made + 1) (2 ^ 64 - 1) }

-- the latest call is one of those that are to fail
abbrev pub is_listed : Calls → Bool
is_listed calls = list_any (λ number. number == calls.made) calls.fails

-- the latest call failed where it is listed, or where memory was refused it, which is counted, and nowhere else
pub record FailsWhereListed {T E : Type 0} (calls : Calls) (before now : ℕ) (result : Result T E) : Type 0 where
  pub listed : is_listed calls ≡ true → IsErr result × (now ≡ before)
  pub failed : OnErr result ((is_listed calls ≡ true) ⊎ (now ≡ before + 1))
  pub passed : OnOk result (now ≡ before)
