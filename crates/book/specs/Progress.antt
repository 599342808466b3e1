-- How far the work on the entries is.
use Rattle.entry_step.specs.Start.{Start, fresh}
use Rattle.std.specs.Prelude.{◌≡◌, ◌<◌, ◌≤◌, ℕ, ◌+◌, ◌-◌, List, [], ◌∷◌, length, map, get_or, set, All}
use Rattle.zbx_types.specs.Masters.{has_id}
use Rattle.zbx_types.specs.declared.entries.Entry.TheVariants.{Tick}
use Rattle.zbx_types.specs.declared.entries.Numbered.{Numbered}
use Rattle.zbx_types.specs.declared.entries.Rec.{Rec}
use Rattle.footprint.specs.Feet.{feet_of}
use Rattle.value_cache.specs.Tokens.{CacheId}
use Rattle.std.specs.List.{filter}
use Rattle.entry_step.specs.Cells.{Cells}
use Rattle.entry_step.specs.Represents.{CellsView, Represents, Holds as HoldsLog}
use Rattle.entry_step.specs.Laws.{IsGood, cells_done, records_done}
use Rattle.entry_step.specs.Parts.{PartView, IsWorkable, IsSame, IsReplaced, AllCome}
use Rattle.syncer_gate.specs.Gate.{Gate, AreOffered, IsOpenBatch}
use Rattle.syncer_gate.specs.Core.{core_of, Holds}
use Rattle.syncer_gate.specs.declared.batch.Batch.{Batch}
use Rattle.syncer_gate.specs.declared.marks.Mark.{Mark}
use Rattle.syncer_gate.specs.declared.marks.Mark.TheVariants.{Pending, Applied}
use Rattle.syncer_gate.specs.Marks.{ended}
use Rattle.book.specs.Entries.{IsWholeLog}
use Rattle.book.specs.Schedule.{Worked, Facts, keeping}
use Rattle.trigger_state.specs.Stages.{Stage}

-- the entries in the order of their numbers, where each stands, the cells, and the records kept of each entry, none
-- of one that isn't applied
pub record ProgressView : Type 0 where
  pub entries : List Numbered
  pub gate : Gate
  pub cells : CellsView
  pub made : List (List Rec)

-- the records kept of the entry with a number, where this number stands before them all
abbrev pub made_at : ℕ → List (List Rec) → ℕ → List Rec
made_at before made n = get_or made (n - (before + 1)) []

-- the state of the work behind this number, where the cells represent these
abbrev pub worked_of : ℕ → ProgressView → Cells → Worked
worked_of before p c = record { core = core_of p.entries p.gate; cells = c; made = made_at before p.made }

-- What holds of it at all times, over what stood before: that was good, the entries are a whole log behind it, all of
-- them were offered, and the facts of the work stand.
pub record IsGoing (from : Start) (p : ProgressView) : Type 0 where
  pub good : IsGood from
  pub whole : IsWholeLog from p.entries
  pub first : p.gate.first ≡ from.number + 1
  pub offered : AreOffered p.gate p.entries
  pub size : length p.made ≡ length p.entries
  pub known : Holds (feet_of from.stage.conf) (core_of p.entries p.gate)
  pub cells : Cells
  pub represented : Represents from.stage p.cells cells
  pub facts : Facts from (worked_of from.number p cells)

-- what contracts see of an order: its batch, the entries of that, and the copies of cells to work on
pub record OrderView : Type 0 where
  pub batch : Batch
  pub entries : List Numbered
  pub part : PartView

-- cells are those before the first entry, and their values are to stand in this cache
abbrev pub IsBlank : Stage → CacheId → CellsView → Type 0
IsBlank stage cache cells = HoldsLog (fresh stage) cells [] × (cells.cache ≡ cache)

-- an order's entries have the batch's numbers, its copies are of cells to which they come, their values stand in this
-- cache, and its scratch is free
pub record IsOrder (stage : Stage) (cache : CacheId) (batch : Batch) (entries : List Numbered) (part : PartView)
    (scratch : CellsView) : Type 0 where
  pub numbers : map (λ e. e.number) entries ≡ batch.numbers
  pub workable : IsWorkable stage entries part
  pub cached : part.cache ≡ cache
  pub scratch_free : IsBlank stage cache scratch

-- an order that was worked out, with the copies that it leaves and the records of its entries
pub record DoneView : Type 0 where
  pub order : OrderView
  pub part : PartView
  pub made : List (List Rec)

-- the entries of a batch, in order
abbrev pub entries_with : List ℕ → List Numbered → List Numbered
entries_with numbers entries = filter (λ e. has_id numbers e.number) entries

-- an order's inputs are what is here: its entries and its copies
abbrev pub HasInputs : ProgressView → OrderView → Type 0
HasInputs p order = (entries_with order.batch.numbers p.entries ≡ order.entries) × IsSame p.cells order.part

-- the entry with a number, where this number stands before them all
abbrev pub entry_at : ℕ → List Numbered → ℕ → Numbered
entry_at before entries n = get_or entries (n - (before + 1)) (record { number = 0; entry = Tick 0 })

-- each of some entries is the one with its number here
abbrev pub AreHere : ℕ → List Numbered → List Numbered → Type 0
AreHere before entries [] = Unit {0}
AreHere before entries (e ∷ es) = (entry_at before entries e.number ≡ e) × AreHere before entries es

-- a number behind this one is one of so many
abbrev pub IsAmong : ℕ → ℕ → ℕ → Type 0
IsAmong before count n = (before < n) × (n ≤ before + count)

-- the numbers are of entries that are there
abbrev pub AreWithin : ℕ → List Numbered → List ℕ → Type 0
AreWithin before entries numbers = All (IsAmong before (length entries)) numbers

-- some entries with their records come into their places
abbrev pub IsKept : ℕ → List (List Rec) → List Numbered → List (List Rec) → List (List Rec) → Type 0
IsKept before made es lists next = (n : ℕ) → before < n
    → made_at before next n ≡ keeping (made_at before made) es lists n

-- the entries with some numbers, behind this one, are those at their places, and they come to what these cells represent
pub record AreReady (before : ℕ) (stage : Stage) (held : CellsView) (entries : List Numbered)
    (numbers : List ℕ) : Type 0 where
  pub within : AreWithin before entries numbers
  pub places : entries_with numbers entries ≡ map (entry_at before entries) numbers
  pub numbered : map (λ e. e.number) (entries_with numbers entries) ≡ numbers
  pub cells : Cells
  pub represented : Represents stage held cells
  pub come : AllCome stage cells (entries_with numbers entries)

-- what entries make of these cells
abbrev pub AreOutputs : Stage → CellsView → List Numbered → PartView → List (List Rec) → Type 0
AreOutputs stage held es part made = (c : Cells) → Represents stage held c → AllCome stage c es
    → (made ≡ records_done stage c es) × ((next : CellsView) → IsReplaced held part next
    → Represents stage next (cells_done stage c es))

-- Some entries are worked out over what is kept, and their records are put in their places: what there is before and
-- behind it.
abbrev pub IsWorkedIn : ℕ → Stage → List Numbered → CellsView → List (List Rec) → CellsView → List (List Rec) → Type 0
IsWorkedIn before stage es held made next rows = (length rows ≡ length made)
    × ((c : Cells) → Represents stage held c → AllCome stage c es
    → Represents stage next (cells_done stage c es)
    × IsKept before made es (records_done stage c es) rows)

-- a batch of one entry, which was pending, and what its end with results leaves, behind this number
pub record IsSingle (before : ℕ) (p : ProgressView) (gate : Gate) (batch : Batch) (n : ℕ) : Type 0 where
  pub inside : n - (before + 1) < length p.gate.marks
  pub pending : get_or p.gate.marks (n - (before + 1)) Pending ≡ Pending
  pub after : map (ended batch.id Applied) gate.marks ≡ set p.gate.marks (n - (before + 1)) Applied

-- What a claim leaves: the work goes on, the batch is open, given back it leaves the marks as they were, and its
-- entries come to the cells.
pub record HasClaimed (from : Start) (p : ProgressView) (gate : Gate) (batch : Batch) : Type 0 where
  pub going : IsGoing from (record p { gate = gate })
  pub opened : IsOpenBatch gate batch
  pub back : map (ended batch.id Pending) gate.marks ≡ p.gate.marks
  pub single : (n : ℕ) → batch.numbers ≡ n ∷ [] → IsSingle from.number p gate batch n
  pub ready : AreReady from.number from.stage p.cells p.entries batch.numbers

-- whatever cells and records there are, a claim of the batch leads from one gate to the other
abbrev pub IsClaim : Start → List Numbered → Gate → Gate → Batch → Type 0
IsClaim from entries before gate batch =
    (held : CellsView) (made : List (List Rec)) → IsGoing from
    (record { entries = entries; gate = before; cells = held; made = made })
    → HasClaimed from (record { entries = entries; gate = before; cells = held; made = made }) gate batch

-- one pending entry is applied
pub record IsOneMore (before next : List Mark) : Type 0 where
  pub place : ℕ
  pub inside : place < length before
  pub pending : get_or before place Pending ≡ Pending
  pub after : next ≡ set before place Applied
