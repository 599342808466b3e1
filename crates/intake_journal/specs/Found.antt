-- What stands at a gate, and behind it.
use Rattle.std.specs.Prelude.{◌≡◌, ◌≢◌, ◌≤◌, ◌<◌, ℕ, ◌+◌, ◌^◌, ⊤, List, length, take, drop, slice_index, Some, None}
use Rattle.byteorder.specs.Endian.{little_number}
use Rattle.zbx_types.specs.declared.entries.Entry.{Entry}
use Rattle.intake_journal.specs.Bytes.{entries_bytes}
use Rattle.intake_journal.specs.Format.{entries_of}
use Rattle.intake_journal.specs.Kept.{group_behind, longest_journal}
use Rattle.intake_journal.specs.declared.reading.Head.{Head}
use Rattle.intake_journal.specs.declared.reading.Head.TheVariants.{Closed, Cut, Open}
use Rattle.intake_journal.specs.declared.reading.Found.{Found}
use Rattle.intake_journal.specs.declared.reading.Found.TheVariants.{End, Damage, Next}

-- bytes behind a gate at this place begin with a group of these entries, which have this size
pub record HasGroup (at : ℕ) (bytes : List ℕ) (size : ℕ) (entries : List Entry) : Type 0 where
  pub size_is : little_number 4 bytes ≡ size
  pub some : 0 < little_number 4 (drop 4 bytes)
  pub inside : size + 8 < length bytes
  pub within : at + size + 10 ≤ longest_journal
  pub entries_are : entries_of (little_number 4 (drop 4 bytes)) (take size (drop 8 bytes)) ≡ Some entries

-- what the first nine bytes from a gate on are, or all where there are fewer
abbrev pub IsHead : Head → List ℕ → Type 0
IsHead Closed bytes = slice_index bytes 0 ≢ 1
IsHead Cut bytes = (slice_index bytes 0 ≡ 1) × (length bytes < 9)
IsHead (Open size count) bytes = (slice_index bytes 0 ≡ 1) × (9 ≤ length bytes) × (size ≡ little_number 4 (drop 1 bytes)) × (count ≡ little_number 4 (drop 5 bytes))

-- what the gate at this place of a file and what stands behind it are
abbrev pub IsFound : Found → ℕ → List ℕ → Type 0
IsFound End at file = slice_index file at ≢ 1
IsFound Damage at file = (slice_index file at ≡ 1) × (group_behind at (drop (at + 1) file) ≡ None)
IsFound (Next entries size) at file = (slice_index file at ≡ 1) × HasGroup at (drop (at + 1) file) size entries

-- what was found leads to a gate within the longest journal, behind fewer than 2^32 entries and at least one, which have this size
abbrev pub IsSmall : Found → ℕ → Type 0
IsSmall End at = ⊤
IsSmall Damage at = ⊤
IsSmall (Next entries size) at = (at + size + 10 ≤ longest_journal) × (length entries < 2 ^ 32) × (0 < length entries) × (length (entries_bytes entries) ≡ size)
