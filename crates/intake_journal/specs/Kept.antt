-- The base and the groups that the bytes of a journal keep.
use Rattle.std.specs.Prelude.{ℕ, Bool, true, false, ◌&&◌, ◌||◌, zero, suc, ◌+◌, nat_le, nat_lt, ◌==◌, List, [], ◌∷◌, length, take, drop, slice_index, Option, Some, None, if◌then◌else◌, codes}
use Rattle.gated_file.specs.Opened.{begins}
use Rattle.zbx_types.specs.Bases.{empty_base}
use Rattle.zbx_types.specs.declared.base.Base.{Base}
use Rattle.zbx_types.specs.declared.entries.Entry.{Entry}
use Rattle.intake_journal.specs.BaseForm.{base_read}
use Rattle.intake_journal.specs.Format.{◌>>=◌, number_at, entries_of}
use Rattle.intake_journal.specs.declared.format.Beginning.{Beginning}
use Rattle.intake_journal.specs.declared.format.Beginning.TheVariants as beginning
use Rattle.intake_journal.specs.declared.format.Group.{Group}

-- a file of at most 9 bytes, a file that is no journal, a journal whose base isn't complete, one that is damaged at this place, where an open gate is followed by no base or no group, or the groups that a journal keeps
pub data Kept : Type 0 where
  Fresh : Kept
  NotOurs : Kept
  Unfinished : Kept
  Damaged : ℕ → Kept
  Groups : List Group → Kept

-- `ZTSJRN01`, with which each journal begins that has no base
abbrev pub magic : List ℕ
magic = codes "ZTSJRN01"

-- `ZTSJRN02`, with which each journal begins that has a base
abbrev pub based_magic : List ℕ
based_magic = codes "ZTSJRN02"

-- the place where the groups of a journal without a base begin: that of their first gate
abbrev pub first_gate : ℕ
first_gate = 8

-- the place of the gate of a base
abbrev pub base_gate : ℕ
base_gate = 8

-- the most bytes of a journal
abbrev pub longest_journal : ℕ
longest_journal = 1073741824

-- a group of this size and count fits behind a gate at this place, with so many bytes behind the count: it has an entry, and the next gate lies within the bytes and the longest journal
abbrev pub fits : ℕ → ℕ → ℕ → ℕ → Bool
fits at size count left = nat_lt size left && nat_le (at + size + 10) longest_journal && nat_lt 0 count

-- the size and the entries of the group that these bytes begin with, which stand behind a gate at this place
unfoldable pub group_behind : ℕ → List ℕ → Option (ℕ × List Entry)
group_behind at bytes = do
  size ← number_at bytes
  count ← number_at size.1
  entries ← if fits at size.0 count.0 (length count.1) then entries_of count.0 (take size.0 count.1) else None
  Some (size.0, entries)

-- one group more, in front of those that follow it
abbrev pub with_group : Group → Kept → Kept
with_group g (Groups gs) = Groups (g ∷ gs)
with_group g rest = rest

-- what an open gate at this place and what is behind it keep: a group and what the bytes behind so many more keep
abbrev pub followed : ℕ → (ℕ → Kept) → Option (ℕ × List Entry) → Kept
followed at rest None = Damaged at
followed at rest (Some group) = with_group (record { at = at; entries = group.1 }) (rest (group.0 + 8))

-- what the bytes keep from the gate on that stands behind the skipped ones; the first of them has this place
unfoldable pub kept_behind : ℕ → ℕ → List ℕ → Kept
kept_behind skipped at [] = Groups []
kept_behind (suc skipped) at (byte ∷ bytes) = kept_behind skipped (at + 1) bytes
kept_behind zero at (gate ∷ bytes) = if gate == 1 then followed at (λ skipped. kept_behind skipped (at + 1) bytes) (group_behind at bytes) else Groups []

-- what a file keeps from the gate at this place on
abbrev pub kept_from : ℕ → List ℕ → Kept
kept_from at file = kept_behind 0 at (drop at file)

-- the size and the base that these bytes begin with, which stand behind the gate of a base; the next gate lies within the bytes and the longest journal
unfoldable pub base_behind : List ℕ → Option (ℕ × Base)
base_behind bytes = do
  size ← number_at bytes
  base ← if nat_lt size.0 (length size.1) && nat_le (size.0 + 14) longest_journal then base_read (take size.0 size.1) else None
  Some (size.0, base)

-- what a journal begins with whose gate of the base is open or not, by what stands behind that gate
abbrev pub behind_gate : Bool → Option (ℕ × Base) → Beginning
behind_gate false read = beginning.Unfinished
behind_gate true None = beginning.Damaged
behind_gate true (Some read) = beginning.Begun (read.0 + 13) read.1

-- what a file begins with, where one of at most 9 bytes is made anew
unfoldable pub beginning_of : List ℕ → Beginning
beginning_of file =
    if nat_le (length file) 9 || begins magic file then beginning.Begun first_gate empty_base
    else if begins based_magic file then behind_gate (slice_index file base_gate == 1) (base_behind (drop 9 file))
    else beginning.NotOurs

-- the base of a file that begins so, which is the empty one where it has none
abbrev pub base_at : Beginning → Base
base_at (beginning.Begun first base) = base
base_at beginning.NotOurs = empty_base
base_at beginning.Unfinished = empty_base
base_at beginning.Damaged = empty_base

-- the base of a file
abbrev pub base_in : List ℕ → Base
base_in file = base_at (beginning_of file)

-- the place of the first gate of a file that begins so
abbrev pub gate_at : Beginning → ℕ
gate_at (beginning.Begun first base) = first
gate_at beginning.NotOurs = first_gate
gate_at beginning.Unfinished = first_gate
gate_at beginning.Damaged = first_gate

-- the place of the first gate of a file
abbrev pub first_gate_in : List ℕ → ℕ
first_gate_in file = gate_at (beginning_of file)

-- what a file keeps that begins so
abbrev pub kept_as : Beginning → List ℕ → Kept
kept_as (beginning.Begun first base) file = kept_from first file
kept_as beginning.NotOurs file = NotOurs
kept_as beginning.Unfinished file = Unfinished
kept_as beginning.Damaged file = Damaged base_gate

-- what a file keeps
unfoldable pub kept : List ℕ → Kept
kept file = if nat_le (length file) 9 then Fresh else kept_as (beginning_of file) file

-- the groups that a file keeps, where it is a journal without damage; a fresh one keeps none
abbrev pub groups_of : Kept → Option (List Group)
groups_of Fresh = Some []
groups_of NotOurs = None
groups_of Unfinished = None
groups_of (Damaged at) = None
groups_of (Groups gs) = Some gs
