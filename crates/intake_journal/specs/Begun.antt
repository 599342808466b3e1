-- What was read of how a file begins.
use Rattle.std.specs.Prelude.{◌≡◌, ◌≢◌, ◌≤◌, ◌<◌, ℕ, ⊤, true, false, List, [], length, drop, slice_index}
use Rattle.byteorder.specs.Endian.{little_number}
use Rattle.gated_file.specs.Opened.{begins}
use Rattle.zbx_types.specs.Bases.{empty_base}
use Rattle.intake_journal.specs.declared.format.Beginning.{Beginning}
use Rattle.intake_journal.specs.declared.format.Beginning.TheVariants as beginning
use Rattle.intake_journal.specs.Kept.{magic, based_magic, first_gate, longest_journal}
use Rattle.intake_journal.specs.declared.opening.BaseHead.{BaseHead}
use Rattle.intake_journal.specs.declared.opening.BaseHead.TheVariants.{Shut, Cut, Open}
use Rattle.intake_journal.specs.declared.opening.Magic.{Magic}
use Rattle.intake_journal.specs.declared.opening.Magic.TheVariants as magic_read

-- with which magic bytes begin
abbrev pub IsMagic : Magic → List ℕ → Type 0
IsMagic magic_read.Plain bytes = begins magic bytes ≡ true
IsMagic magic_read.Based bytes = (begins magic bytes ≡ false) × (begins based_magic bytes ≡ true)
IsMagic magic_read.Other bytes = (begins magic bytes ≡ false) × (begins based_magic bytes ≡ false)

-- what the first 13 bytes of a journal with a base are, or all where there are fewer
abbrev pub IsBaseHead : BaseHead → List ℕ → Type 0
IsBaseHead Shut bytes = slice_index bytes 8 ≢ 1
IsBaseHead Cut bytes = (slice_index bytes 8 ≡ 1) × (length bytes < 13)
IsBaseHead (Open size) bytes = (slice_index bytes 8 ≡ 1) × (13 ≤ length bytes) × (size ≡ little_number 4 (drop 9 bytes))

-- a first gate lies within the longest journal, only a journal with a base has it elsewhere than at 8, and a base without a text is the empty one
abbrev pub IsPlaced : Beginning → Type 0
IsPlaced (beginning.Begun first base) = (first < longest_journal) × (base ≡ empty_base → first ≡ first_gate) × (base.text ≡ [] → base ≡ empty_base)
IsPlaced beginning.NotOurs = ⊤
IsPlaced beginning.Unfinished = ⊤
IsPlaced beginning.Damaged = ⊤
