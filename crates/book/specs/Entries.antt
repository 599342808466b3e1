-- The entries that go through a ring.
use Rattle.std.specs.Prelude.{◌≡◌, ◌+◌, ℕ, List, map}
use Rattle.zbx_types.specs.Ids.{ids_from}
use Rattle.zbx_types.specs.declared.entries.Numbered.{Numbered}
use Rattle.entry_step.specs.Each.{Each}
use Rattle.entry_laws.specs.InForce.{IsPlain}
use Rattle.entry_step.specs.Log.{log_of, Suits}
use Rattle.entry_step.specs.Start.{Start}

-- the numbers of entries are those behind this one, one by one
abbrev pub AreNumbered : ℕ → List Numbered → Type 0
AreNumbered number entries = map (λ e. e.number) entries ≡ ids_from (number + 1) entries

-- entries in the order of their numbers are a whole log behind a start: their numbers follow that of the start one by
-- one, they suit it, and none is a Config
pub record IsWholeLog (from : Start) (entries : List Numbered) : Type 0 where
  pub numbers : AreNumbered from.number entries
  pub suits : Suits from (log_of entries)
  pub plain : Each IsPlain entries
