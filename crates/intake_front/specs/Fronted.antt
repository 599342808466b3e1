-- A front: the intake of a run over the journal that keeps its entries.
use Rattle.std.specs.Prelude.{◌≡◌, ◌⊎◌, ℕ, ◌+◌, ◌<◌, false, List, [], ◌∷◌, ◌++◌, length, Option, Some, None, IfSome, Result, Ok, Err}
use Rattle.std.specs.List.{flat_map}
use Rattle.std.specs.Option.{option_map}
use Rattle.zbx_types.specs.declared.base.Base.{Base}
use Rattle.zbx_types.specs.declared.entries.Entry.{Entry}
use Rattle.zbx_types.specs.declared.entries.Numbered.{Numbered}
use Rattle.outside.specs.Disk.{DiskTells, Only}
use Rattle.intake_journal.specs.Kept.{kept, base_in, groups_of}
use Rattle.intake_journal.specs.Block.{passes_with_all}
use Rattle.intake_journal.specs.Settled.{Journaled}
use Rattle.intake_journal.specs.declared.format.Group.{Group}
use Rattle.intake_journal.specs.declared.state.State.TheVariants.{Ready}
use Rattle.intake_front.specs.Intake.{Limits, Intake, numbered_from}
use Rattle.intake_front.specs.declared.answer.Answer.{Answer}
use Rattle.intake_front.specs.declared.answer.Stop.{Stop}
use Rattle.intake_front.specs.declared.answer.Stop.TheVariants as stop
use Rattle.intake_front.specs.declared.answer.Unmade.{Unmade}

-- What contracts see of a front: its journal, and its intake behind all events that it took. Of these some may wait
-- for a commit: the entries that the journal keeps, the groups that wait, and what these events are answered with,
-- where their groups are kept, and where the disk refuses the first of them.
pub record Fronted (D : Type 0) : Type 0 where
  pub journal : Journaled D
  pub intake : Intake
  pub kept : List Numbered
  pub block : List (List Entry)
  pub answers : List Answer
  pub failing : List Answer

-- the entries of groups, numbered behind this number
abbrev pub numbered_of : ℕ → List Group → List Numbered
numbered_of before groups = numbered_from (before + 1) (flat_map (λ g. g.entries) groups)

-- the entries that a file keeps, numbered behind its base, where it is a journal without damage
abbrev pub kept_entries : List ℕ → Option (List Numbered)
kept_entries file = option_map (numbered_of (base_in file).number) (groups_of (kept file))

-- the bytes keep this base and these entries behind it
abbrev pub Keeps : Base → List Numbered → List ℕ → Type 0
Keeps base entries file = (base_in file ≡ base) × (kept_entries file ≡ Some entries)

-- the bytes keep this base, and these entries behind it, or those
abbrev pub KeepsEither : Base → List Numbered → List Numbered → List ℕ → Type 0
KeepsEither base before after file = Keeps base before file ⊎ Keeps base after file

-- a journal has these entries and so many bytes, and its disk keeps them behind its base through any crash, where it tells
pub record HasJournaled {D : Type 0} (tells : D → DiskTells) (journal : Journaled D) (entries : List Numbered)
    (size : ℕ) : Type 0 where
  pub count : journal.entries ≡ length entries
  pub size_is : journal.at + 1 ≡ size
  pub keeps : IfSome (tells journal.disk).bytes (Keeps journal.base entries)
  pub durable : IfSome (tells journal.disk).bytes (λ b. Only b (tells journal.disk))

-- each crash leaves bytes that keep this base and these entries, where the disk tells
abbrev pub IsKept : DiskTells → Base → List Numbered → Type 0
IsKept disk base entries =
    IfSome disk.bytes (λ b. Keeps base entries b × ((c : List ℕ) → disk.images c → Keeps base entries c))

-- the limits of a journal whose disk refuses the group with this number
abbrev pub limits_of : {D : Type 0} → Journaled D → ℕ → Limits
limits_of journal refused = record { max_entries = journal.max_entries; max_bytes = journal.max_bytes; stop = refused }

-- the number of the group that the disk refused of an event that stopped: the next one where it stopped by a fault of
-- the disk
abbrev pub refused_group : Intake → Option Stop → ℕ
refused_group i None = 0
refused_group i (Some stop.Closed) = 0
refused_group i (Some stop.DiskFault) = i.groups + 1
refused_group i (Some (stop.Full entries bytes)) = 0

-- the entries of the groups of a block
abbrev pub all_of : List (List Entry) → List Entry
all_of block = flat_map (λ es. es) block

-- a block with a group more; no entries are no group
abbrev pub staged_with : List (List Entry) → List Entry → List (List Entry)
staged_with block [] = block
staged_with block (e ∷ es) = block ++ (e ∷ es) ∷ []

-- a block is empty, or its groups fit into the journal
abbrev pub HasRoom : {D : Type 0} → Journaled D → List (List Entry) → Type 0
HasRoom journal block = 0 < length block → passes_with_all journal block ≡ false

-- a journal that is ready, with the limits of another
abbrev pub IsReady : {D : Type 0} → Journaled D → Journaled D → Type 0
IsReady old new = (new.state ≡ Ready) × (new.max_entries ≡ old.max_entries) × (new.max_bytes ≡ old.max_bytes)

-- the disk of a front, or the one that comes back where none was made
abbrev pub disk_of : {D : Type 0} → Result (Fronted D) (Unmade D) → D
disk_of (Ok front) = front.journal.disk
disk_of (Err unmade) = unmade.disk
