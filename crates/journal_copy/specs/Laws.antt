-- Runs on the copy of a journal: what newer entries make on the state that stands in place of older ones.
use Rattle.std.specs.Prelude.{◌≡◌, ◌≤◌, ◌+◌, List, ◌++◌, length}
use Rattle.zbx_types.specs.declared.base.Base.{Base}
use Rattle.zbx_types.specs.declared.entries.Numbered.{Numbered}
use Rattle.zbx_types.specs.declared.entries.Rec.{Rec}
use Rattle.entry_laws.specs.InForce.{FitsLog, IsFull}
use Rattle.entry_step.specs.Log.{log_of}
use Rattle.base_laws.specs.FitsBase.{most_counted}
use Rattle.base_laws.specs.Grounds.{start_of}
use Rattle.book_opening.specs.Outgoing.{log_records}
use Rattle.journal_opening.specs.Replayed.{flat, AreFlat, IsGoodBase}
use Rattle.journal_copy.specs.State.{state_of}

-- Entries stand on a base: a run can begin with it, their configurations are accepted, their numbers go on from its own, and
-- each fits behind those before it.
pub record StandOn (base : Base) (entries : List Numbered) : Type 0 where
  pub good : IsGoodBase base
  pub accepted : AreFlat base.text entries
  pub full : IsFull (start_of flat base) (log_of entries)
  pub fits : FitsLog flat (start_of flat base) (log_of entries)

-- the records that entries make on a base
abbrev pub records_on : Base → List Numbered → List Rec
records_on base entries = log_records flat base (log_of entries)

-- Newer entries make on the state of older ones what they make behind these, they leave the same state, and they stand on it,
-- so a run can begin with it; where there is anything in it, and its number and its bytes of lines can be counted.
abbrev pub CopyGoesOn : Type 0
CopyGoesOn = (base : Base) (older newer : List Numbered) → StandOn base (older ++ newer) → 1 ≤ length base.text + length older
    → let state : Base = state_of base older in
    state.number ≤ most_counted → state.lines ≤ most_counted
    → (records_on base (older ++ newer) ≡ records_on base older ++ records_on state newer)
    × (state_of base (older ++ newer) ≡ state_of state newer)
    × StandOn state newer
