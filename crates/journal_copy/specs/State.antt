-- The state that a journal keeps: what its entries leave on its base.
use Rattle.std.specs.Prelude.{◌≡◌, ℕ, min, List, [], Option}
use Rattle.zbx_types.specs.Bases.{empty_base}
use Rattle.zbx_types.specs.declared.base.Base.{Base}
use Rattle.zbx_types.specs.declared.entries.Numbered.{Numbered}
use Rattle.base_laws.specs.Bases.{beside_of, whole_base}
use Rattle.base_laws.specs.Grounds.{start_of}
use Rattle.entry_step.specs.Log.{log_of}
use Rattle.journal_opening.specs.Opening.{IsAccepted}
use Rattle.journal_opening.specs.Recovered.{Found, FoundGroups, found_entries}
use Rattle.journal_opening.specs.Replayed.{flat}

-- the base of entries on a base
abbrev pub state_of : Base → List Numbered → Base
state_of base entries = whole_base flat (beside_of base) (start_of flat base) (log_of entries)

-- that of what a file keeps
abbrev pub found_state : Found → Base
found_state found = state_of found.base (found_entries found)

-- a file keeps nothing: no base, and no entry
abbrev pub IsNothing : Found → Type 0
IsNothing found = (found.base ≡ empty_base) × (found_entries found ≡ [])

-- what a file keeps is accepted, it isn't nothing, and of its state this is so
abbrev pub OfState : Option (List ℕ) → (Base → Type 0) → Type 0
OfState file Is =
    (found : Found) × FoundGroups file found × IsAccepted found × ¬ (IsNothing found) × Is (found_state found)

-- A journal that was read has this base and these entries: what its file keeps is accepted.
pub record AreKept (base : Base) (entries : List Numbered) : Type 0 where
  pub found : Found
  pub accepted : IsAccepted found
  pub base_is : base ≡ found.base
  pub entries_are : entries ≡ found_entries found

-- a base whose bytes of lines stand as 2^64 - 1 where they are more
abbrev pub counted : Base → Base
counted base = record base { lines = min base.lines 18446744073709551615 }
