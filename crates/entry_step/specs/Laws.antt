-- The laws of order, in the words of the search. A log has the newest entry first.
use Rattle.std.specs.Prelude.{◌≡◌, ◌≤◌, ◌<◌, Bool, true, false, cond, List, [], ◌∷◌, ◌++◌, filter}
use Rattle.std.specs.List.{list_any}
use Rattle.zbx_types.specs.declared.conf.Conf.{Conf}
use Rattle.trigger_state.specs.Stages.{Stage, OwnsEvents}
use Rattle.trigger_state.specs.declared.stage.Origin.{Origin}
use Rattle.zbx_types.specs.declared.entries.Numbered.{Numbered}
use Rattle.zbx_types.specs.declared.entries.Rec.{Rec}
use Rattle.footprint.specs.Conflict.{conflict_of}
use Rattle.entry_step.specs.Each.{Each, EachPair}
use Rattle.entry_step.specs.Records.{out_of, replay}
use Rattle.entry_step.specs.Cells.{Key, TickKey, CellOf, Cells, touches, records, after, look, AreCellsOf}
use Rattle.entry_step.specs.Represents.{IsTidy}
use Rattle.entry_step.specs.Start.{Start, fresh}

-- two families of cells agree on the foot of an entry, and have the same first Tick
pub record Agree (conf : Conf) (e : Numbered) (c d : Cells) : Type 0 where
  pub at : (k : Key) → touches conf e.entry k ≡ true → c k ≡ d k
  pub tick : c TickKey ≡ d TickKey

-- over both, an entry makes the same records and the same changes of its foot
pub record IsLocal (stage : Stage) (e : Numbered) (c d : Cells) : Type 0 where
  pub same_records : records stage c e ≡ records stage d e
  pub same_changes : (k : Key) → touches stage.conf e.entry k ≡ true → after stage c e k ≡ after stage d e k

-- an entry leaves the cells outside its foot alone
abbrev pub IsConfined : Stage → Numbered → Cells → Type 0
IsConfined stage e c = (k : Key) → touches stage.conf e.entry k ≡ false → after stage c e k ≡ c k

-- two entries don't conflict: no cell is in both feet
abbrev pub Apart : Conf → Numbered → Numbered → Type 0
Apart conf a b = (k : Key) → touches conf a.entry k ≡ true → touches conf b.entry k ≡ true → ⊥

-- Two entries conflict, by their footprints, exactly where some cell is in both feet.
abbrev pub ConflictIsMeeting : Type 0
ConflictIsMeeting = (conf : Conf) (a b : Numbered)
    → (conflict_of conf a.entry b.entry ≡ false → Apart conf a b)
    × (Apart conf a b → conflict_of conf a.entry b.entry ≡ false)

-- what stood before the entries of a log is tidy, and no event of another configuration is of a later entry
pub record IsGood (start : Start) : Type 0 where
  pub tidy : IsTidy start.stage (look start [] start.records)
  pub origins : Each (λ (o : Origin). o.event.number ≤ start.number) start.stage.origins

-- each of these entries is behind what stood before a log
abbrev pub AreBehind : Start → List Numbered → Type 0
AreBehind start log = Each (λ (e : Numbered). start.number < e.number) log

-- where no event is of another configuration, a fresh start is good
abbrev pub FreshIsGood : Type 0
FreshIsGood = (stage : Stage) → stage.origins ≡ [] → IsGood (fresh stage)

-- behind a good start the triggers of the events of an entry have the ids in them
abbrev pub EntriesOwn : Type 0
EntriesOwn = (start : Start) (e : Numbered) → IsGood start → start.number < e.number → OwnsEvents start.stage e.number

-- cells that stand for a log behind a good start are tidy
abbrev pub AreTidyCells : Type 0
AreTidyCells = (start : Start) (c : Cells) (log : List Numbered) → IsGood start → AreBehind start log → AreCellsOf start c log
    → IsTidy start.stage c

-- Locality: an entry's records and changes are a function of the entry, the configuration, the first Tick and the
-- cells of its foot, and nothing else changes.
abbrev pub Locality : Type 0
Locality =
    (stage : Stage) (e : Numbered) (c d : Cells) → OwnsEvents stage e.number → IsTidy stage c → IsTidy stage d → Agree stage.conf e c d
    → IsLocal stage e c d × IsConfined stage e c

-- each of the newer entries adds the same records with an entry in its place and without
abbrev pub SameOut : Start → Numbered → List Numbered → List Numbered → Type 0
SameOut start e [] older = Unit {0}
SameOut start e (a ∷ newer) older =
    (out_of start (newer ++ older) a a.entry (start.records ++ replay start (newer ++ older)) ≡ out_of start
    (newer ++ e ∷ older) a a.entry (start.records ++ replay start (newer ++ e ∷ older)))
    × SameOut start e newer older

-- what an entry does over cells that stand for the log without it is what it does in its place, and behind it they
-- stand for the log with it
pub record InPlace (start : Start) (newer : List Numbered) (e : Numbered) (older : List Numbered)
    (c : Cells) : Type 0 where
  pub its_records : records start.stage c e ≡ out_of start older e e.entry (start.records ++ replay start older)
  pub its_changes : (d : Cells) → AreCellsOf start d older → (k : Key) → touches start.stage.conf e.entry k ≡ true
      → after start.stage c e k ≡ after start.stage d e k
  pub stand : AreCellsOf start (after start.stage c e) (newer ++ e ∷ older)

-- Insertion: an entry that conflicts with no newer one joins in its place.
abbrev pub Insertion : Type 0
Insertion =
    (start : Start) (newer : List Numbered) (e : Numbered) (older : List Numbered) → IsGood start
    → AreBehind start (newer ++ e ∷ older) → Each (λ a. Apart start.stage.conf e a) newer
    → SameOut start e newer older × ((c : Cells) → AreCellsOf start c (newer ++ older) → InPlace start newer e older c)

-- the cells behind these entries, the oldest first
abbrev pub cells_done : Stage → Cells → List Numbered → Cells
cells_done stage c [] = c
cells_done stage c (e ∷ es) = cells_done stage (after stage c e) es

-- the records of each of these entries, the oldest first
abbrev pub records_done : Stage → Cells → List Numbered → List (List Rec)
records_done stage c [] = []
records_done stage c (e ∷ es) = records stage c e ∷ records_done stage (after stage c e) es

-- a cell is in the foot of one of these entries
abbrev pub any_touches : Conf → List Numbered → Key → Bool
any_touches conf es k = list_any (λ e. touches conf e.entry k) es

-- the cells of the feet from the copy, the others as they were
abbrev pub put_over : Conf → List Numbered → Cells → Cells → Cells
put_over conf es copy c k = cond {A = CellOf k} (any_touches conf es k) (copy k) (c k)

-- a copy has the cells of the feet, and the first Tick
pub record Copies (conf : Conf) (es : List Numbered) (c copy : Cells) : Type 0 where
  pub at : (k : Key) → any_touches conf es k ≡ true → c k ≡ copy k
  pub tick : c TickKey ≡ copy TickKey

-- A batch on a copy: entries that are worked out on a copy of the cells of their feet make the records that they make
-- over the cells themselves, and the copy put back is what they leave there.
abbrev pub BatchOnACopy : Type 0
BatchOnACopy =
    (stage : Stage) (es : List Numbered) (c copy : Cells) → Each (λ (e : Numbered). OwnsEvents stage e.number) es
    → IsTidy stage c → IsTidy stage copy → Copies stage.conf es c copy
    → (records_done stage copy es ≡ records_done stage c es)
    × (put_over stage.conf es (cells_done stage copy es) c ≡ cells_done stage c es)

-- an applied entry conflicts with no older one that isn't
abbrev pub PassedApart : Conf → (Numbered → Bool) → Numbered → Numbered → Type 0
PassedApart conf applied e older = applied e ≡ true → applied older ≡ false → Apart conf older e

-- The applied part of a log: over cells that stand for it, an entry that conflicts with no older one that isn't applied
-- makes the records that it makes over the whole log.
abbrev pub AppliedPart : Type 0
AppliedPart =
    (start : Start) (applied : Numbered → Bool) (older : List Numbered) (e : Numbered)
    → IsGood start → AreBehind start (e ∷ older) → EachPair (PassedApart start.stage.conf applied) older
    → Each (λ y. applied y ≡ false → Apart start.stage.conf y e) older → (c : Cells) → AreCellsOf start c (filter applied older)
    → records start.stage c e ≡ out_of start older e e.entry (start.records ++ replay start older)
