-- What is known of a journal and its disk between two calls.
use Rattle.std.specs.Prelude.{◌≡◌, ◌≢◌, ℕ, ◌+◌, ◌*◌, ◌^◌, ◌<◌, ◌≤◌, ⊤, List, [], ◌∷◌, ◌++◌, length, take, get_or, IfSome}
use Rattle.outside.specs.Disk.{DiskTells, Only}
use Rattle.zbx_types.specs.declared.base.Base.{Base}
use Rattle.intake_journal.specs.Kept.{Kept, longest_journal, with_group, kept_behind, kept_from, kept, beginning_of, base_in}
use Rattle.intake_journal.specs.declared.format.Beginning.TheVariants.{Begun}
use Rattle.intake_journal.specs.declared.format.Group.{Group}
use Rattle.intake_journal.specs.declared.state.State.{State}
use Rattle.intake_journal.specs.declared.state.State.TheVariants.{Reading, Ready, Broken}

-- what contracts see of a journal: its disk, its base, the place of its first gate and that of the gate behind what was read or written, how many entries stand before it, its limits and its state
pub record Journaled (D : Type 0) : Type 0 where
  pub disk : D
  pub base : Base
  pub first : ℕ
  pub at : ℕ
  pub entries : ℕ
  pub max_entries : ℕ
  pub max_bytes : ℕ
  pub state : State

-- groups, in front of what the bytes behind them keep
abbrev pub onto : List Group → Kept → Kept
onto [] rest = rest
onto (g ∷ gs) rest = with_group g (onto gs rest)

-- what a journal begins with, and these groups, each behind an open gate, the first of which has this place, whatever stands behind them
pub record IsFront (first : ℕ) (groups : List Group) (front : List ℕ) : Type 0 where
  pub base : Base
  pub begins : (gate : ℕ) (rest : List ℕ) → beginning_of (front ++ gate ∷ rest) ≡ Begun first base
  pub behind : 8 ≤ first
  pub long : first ≤ length front
  pub keeps : (gate : ℕ) (rest : List ℕ) → kept_from first (front ++ gate ∷ rest) ≡ onto groups (kept_behind 0 (length front) (gate ∷ rest))

-- how many entries groups have
abbrev pub count_entries : List Group → ℕ
count_entries [] = 0
count_entries (g ∷ gs) = length g.entries + count_entries gs

-- groups of so many entries stand between the first gate and a gate, at these places, and all of the bytes is durable
pub record IsDurable (disk : DiskTells) (first at entries : ℕ) (bytes : List ℕ) : Type 0 where
  pub groups : List Group
  pub front : IsFront first groups (take at bytes)
  pub count : entries ≡ count_entries groups
  pub gate : at < length bytes
  pub durable : Only bytes disk

-- what a journal in this state knows of its disk, where the disk tells: the gate of a ready journal isn't open
abbrev pub IsSettled : State → DiskTells → ℕ → ℕ → ℕ → Type 0
IsSettled Reading disk first at entries = IfSome disk.bytes (IsDurable disk first at entries)
IsSettled Ready disk first at entries = IfSome disk.bytes (λ b. IsDurable disk first at entries b × (get_or b at 1 ≢ 1))
IsSettled Broken disk first at entries = ⊤

-- the place, the count and the limit of a journal are small
abbrev pub IsWithin : ℕ → ℕ → ℕ → Type 0
IsWithin at entries max_bytes = (at < longest_journal) × (entries ≤ at * 2 ^ 32) × (max_bytes ≤ longest_journal)

-- the bytes keep what one of the disk's images keeps, and its base
abbrev pub KeepsAsOneOf : DiskTells → List ℕ → Type 0
KeepsAsOneOf disk c = (d : List ℕ) × disk.images d × (kept c ≡ kept d) × (base_in c ≡ base_in d)
