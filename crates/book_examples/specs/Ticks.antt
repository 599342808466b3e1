-- What goes into a ring of the tests.
use Rattle.std.specs.Prelude.{◌≡◌, ◌+◌, ℕ, List, length}
use Rattle.zbx_types.specs.declared.entries.Numbered.{Numbered}
use Rattle.entry_step.specs.Log.{log_of, last_moment}
use Rattle.entry_step.specs.Start.{Start}
use Rattle.book.specs.Entries.{IsWholeLog}

-- the entries that were sent are a whole log behind the start, of moment 0, and the next one has this number
pub record HasTicks (start : Start) (sent : List Numbered) (next : ℕ) : Type 0 where
  pub whole : IsWholeLog start sent
  pub next_is : next ≡ start.number + length sent + 1
  pub moment : last_moment start (log_of sent) ≡ 0
