-- Journals that begin with a base: what stands before their groups, and what a crash leaves while one is made.
use Rattle.std.specs.Prelude.{◌≡◌, ◌⊎◌, ◌≤◌, ℕ, ◌+◌, nat_lt, Bool, ◌||◌, List, [], ◌∷◌, ◌++◌, length, Result, Ok, Err}
use Rattle.zbx_types.specs.declared.base.Base.{Base}
use Rattle.intake_journal.specs.Bytes.{number_bytes}
use Rattle.intake_journal.specs.BaseBytes.{base_bytes}
use Rattle.intake_journal.specs.Kept.{Groups, longest_journal, based_magic, kept, base_in}
use Rattle.intake_journal.specs.Kept.Kept.{Unfinished}
use Rattle.intake_journal.specs.declared.making.MakeError.{MakeError}

-- the beginning of such a journal: a closed gate
abbrev pub begun : List ℕ
begun = based_magic ++ 0 ∷ []

-- the most that a base's number may be, and its bytes of lines
abbrev pub most_counted : ℕ
most_counted = 9000000000000000000

-- what stands behind the gate of a base: its size, the base, and a closed gate
abbrev pub block_bytes : Base → List ℕ
block_bytes base = number_bytes (length (base_bytes base)) ++ base_bytes base ++ 0 ∷ []

-- a journal of this base and of no entries
abbrev pub HasBase : Base → List ℕ → Type 0
HasBase base file = (base_in file ≡ base) × (kept file ≡ Groups [])

-- a crash while a base is put into a file that held these bytes leaves them, at most 9 bytes, an unfinished file, or the base
abbrev pub IsMaking : List ℕ → Base → List ℕ → Type 0
IsMaking before base c = (c ≡ before) ⊎ ((length c ≤ 9) ⊎ ((kept c ≡ Unfinished) ⊎ HasBase base c))

-- a base is too large where its file would pass the longest journal, or one of its counts the greatest
abbrev pub is_too_large : Base → Bool
is_too_large base = nat_lt longest_journal (length (block_bytes base) + 9) || nat_lt most_counted base.number || nat_lt most_counted base.lines

-- the disk that comes back, alone or beside the error
abbrev pub made_disk : {D : Type 0} → Result D (D × MakeError) → D
made_disk (Ok disk) = disk
made_disk (Err pair) = pair.0
