-- Groups in a row, as they are written and as they are read.
use Rattle.std.specs.Prelude.{◌≡◌, ◌⊎◌, ℕ, ◌+◌, ◌-◌, ◌^◌, ◌<◌, ◌≤◌, min, nat_lt, Bool, ◌||◌, List, [], ◌∷◌, ◌++◌, length, All, map, Option, Some, unwrap_or}
use Rattle.std.specs.Option.{option_map}
use Rattle.zbx_types.specs.declared.entries.Entry.{Entry}
use Rattle.intake_journal.specs.Bytes.{entries_bytes, group_bytes}
use Rattle.intake_journal.specs.Format.{entries_of}
use Rattle.intake_journal.specs.Kept.{longest_journal, kept_behind, kept, groups_of}
use Rattle.intake_journal.specs.Settled.{Journaled}
use Rattle.intake_journal.specs.declared.format.Group.{Group}

-- groups, each behind an open gate
abbrev pub opened_bytes : List (List Entry) → List ℕ
opened_bytes [] = []
opened_bytes (es ∷ groups) = 1 ∷ group_bytes es ++ opened_bytes groups

-- these groups, the gate of the first at this place
abbrev pub placed : ℕ → List (List Entry) → List Group
placed at [] = []
placed at (es ∷ groups) = record { at = at; entries = es } ∷ placed (at + (length (entries_bytes es) + 9)) groups

-- how many entries they have
abbrev pub count_all : List (List Entry) → ℕ
count_all [] = 0
count_all (es ∷ groups) = length es + count_all groups

-- the groups and these more, the first with its gate at this place
abbrev pub added_all : ℕ → List (List Entry) → Option (List Group) → Option (List Group)
added_all at groups before = option_map (λ gs. gs ++ placed at groups) before

-- the bytes keep these groups, or these and all of the list
abbrev pub KeepsNoneOrAll : Option (List Group) → ℕ → List (List Entry) → List ℕ → Type 0
KeepsNoneOrAll before at groups c = (groups_of (kept c) ≡ before) ⊎ (groups_of (kept c) ≡ added_all at groups before)

-- a group has an entry, and is read again
abbrev pub IsReadable : List Entry → Type 0
IsReadable es = (0 < length es) × (entries_of (length es) (entries_bytes es) ≡ Some es)

-- the groups that bytes hold, whose first byte is a gate
abbrev pub staged_in : List ℕ → List (List Entry)
staged_in bytes = map (λ g. g.entries) (unwrap_or (groups_of (kept_behind 0 0 bytes)) [])

-- bytes are groups of so many entries, each behind an open gate, and a closed gate
pub record IsStaged (bytes : List ℕ) (entries : ℕ) : Type 0 where
  pub groups : List (List Entry)
  pub bytes_are : bytes ≡ opened_bytes groups ++ 0 ∷ []
  pub readable : All IsReadable groups
  pub count : entries ≡ count_all groups
  pub within : length bytes ≤ longest_journal

-- how many entries a journal would have with these groups
abbrev pub entries_with_all : {D : Type 0} → Journaled D → List (List Entry) → ℕ
entries_with_all journal groups = journal.entries + count_all groups

-- how many bytes it would have, up to and with the gate behind the last of them, or 2^64 - 1 where it is more
abbrev pub bytes_with_all : {D : Type 0} → Journaled D → List (List Entry) → ℕ
bytes_with_all journal groups = min (journal.at + length (opened_bytes groups) + 1) (2 ^ 64 - 1)

-- with these groups the journal would pass a limit
abbrev pub passes_with_all : {D : Type 0} → Journaled D → List (List Entry) → Bool
passes_with_all journal groups = nat_lt journal.max_entries (entries_with_all journal groups) || nat_lt journal.max_bytes (bytes_with_all journal groups)
