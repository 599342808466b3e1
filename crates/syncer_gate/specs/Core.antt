-- The core: entries that are offered, claimed, applied and given back, in any order.
use Rattle.std.specs.Prelude.{◌≡◌, ◌<◌, ℕ, ◌==◌, Bool, true, false, not, List, [], ◌∷◌, reverse, ◌⊎◌, if◌then◌else◌}
use Rattle.zbx_types.specs.Masters.{has_id}
use Rattle.zbx_types.specs.declared.entries.Numbered.{Numbered}
use Rattle.footprint.specs.Feet.{Footing}
use Rattle.footprint.specs.Conflict.{conflict_by}
use Rattle.syncer_gate.specs.declared.marks.Mark.{Mark}
use Rattle.syncer_gate.specs.declared.marks.Mark.TheVariants.{Pending, Applied, Taken}
use Rattle.syncer_gate.specs.Marks.{is_pending, is_open, is_taken, ended}
use Rattle.syncer_gate.specs.Gate.{Gate, mark_of}

-- A state: a log of entries, the newest first, and where the entry with each number stands. A number that no entry has is
-- pending.
pub record Core : Type 0 where
  pub log : List Numbered
  pub status : ℕ → Mark

-- what may happen: an entry is offered, a batch takes entries, ends with its results, or ends without
pub data Step : Type 0 where
  Offer : Numbered → Step
  Claim : (id : ℕ) (numbers : List ℕ) → Step
  Apply : (id : ℕ) → Step
  GiveBack : (id : ℕ) → Step

-- the state behind a step
abbrev pub happens : Core → Step → Core
happens s (Offer e) = record { log = e ∷ s.log; status = s.status }
happens s (Claim id numbers) = record { log = s.log; status = λ n. if has_id numbers n then Taken id else s.status n }
happens s (Apply id) = record { log = s.log; status = λ n. ended id Applied (s.status n) }
happens s (GiveBack id) = record { log = s.log; status = λ n. ended id Pending (s.status n) }

-- an entry is in a log
abbrev pub In : Numbered → List Numbered → Type 0
In e [] = ⊥
In e (x ∷ log) = (e ≡ x) ⊎ In e log

-- a number is that of one of a log's entries
abbrev pub IsNumber : List Numbered → ℕ → Type 0
IsNumber log n = (e : Numbered) × In e log × (e.number ≡ n)

-- What a claim may take: pending entries, none of which conflicts with an entry of an open batch or with an earlier
-- pending one outside the batch. Its id is new.
pub record MayClaim (feet : Footing) (s : Core) (id : ℕ) (numbers : List ℕ) : Type 0 where
  pub fresh : (n : ℕ) → is_taken id (s.status n) ≡ false
  pub known : (n : ℕ) → has_id numbers n ≡ true → IsNumber s.log n
  pub pending : (n : ℕ) → has_id numbers n ≡ true → s.status n ≡ Pending
  pub behind : (y e : Numbered) → In y s.log → In e s.log → y.number < e.number → has_id numbers e.number ≡ true
      → has_id numbers y.number ≡ false → s.status y.number ≡ Pending → conflict_by feet y.entry e.entry ≡ false
  pub beside : (y e : Numbered) → In y s.log → In e s.log → has_id numbers e.number ≡ true
      → is_open (s.status y.number) ≡ true → conflict_by feet y.entry e.entry ≡ false

-- a step may be taken: numbers rise, and a claim takes what it may
abbrev pub IsAllowed : Footing → Core → Step → Type 0
IsAllowed feet s (Offer e) = (y : Numbered) → In y s.log → y.number < e.number
IsAllowed feet s (Claim id numbers) = MayClaim feet s id numbers
IsAllowed feet s (Apply id) = Unit {0}
IsAllowed feet s (GiveBack id) = Unit {0}

-- each of some steps may be taken behind those before it
abbrev pub AreAllowed : Footing → Core → List Step → Type 0
AreAllowed feet s [] = Unit {0}
AreAllowed feet s (step ∷ steps) = IsAllowed feet s step × AreAllowed feet (happens s step) steps

-- no entry yet
abbrev pub start : Core
start = record { log = []; status = λ n. Pending }

-- the state behind some steps
abbrev pub run : Core → List Step → Core
run s [] = s
run s (step ∷ steps) = run (happens s step) steps

-- An entry that stands at the first has gone past an earlier one that stands at the second: it is in an open batch, and
-- that one is neither applied nor in the same batch; or it is applied, and that one isn't.
abbrev pub passes : Mark → Mark → Bool
passes Pending earlier = false
passes (Taken id) Pending = true
passes (Taken id) (Taken other) = not (other == id)
passes (Taken id) Applied = false
passes Applied Pending = true
passes Applied (Taken other) = true
passes Applied Applied = false

-- no entry has gone past an earlier one that it conflicts with
abbrev pub InOrder : Footing → Core → Type 0
InOrder feet s =
    (y e : Numbered) → In y s.log → In e s.log → y.number < e.number
    → passes (s.status e.number) (s.status y.number) ≡ true → conflict_by feet y.entry e.entry ≡ false

-- what holds at all times: no order is broken, and a number that isn't pending is one of the log's
pub record Holds (feet : Footing) (s : Core) : Type 0 where
  pub order : InOrder feet s
  pub known : (n : ℕ) → is_pending (s.status n) ≡ false → IsNumber s.log n

-- each step that may be taken keeps it
abbrev pub EachStep : Type 0
EachStep = (feet : Footing) (s : Core) (step : Step) → Holds feet s → IsAllowed feet s step → Holds feet (happens s step)

-- whatever is offered, claimed, applied and given back, no order is broken
abbrev pub EverySchedule : Type 0
EverySchedule = (feet : Footing) (steps : List Step) → AreAllowed feet start steps → InOrder feet (run start steps)

-- the state of a gate over all entries that were offered, in order
abbrev pub core_of : List Numbered → Gate → Core
core_of entries gate = record { log = reverse entries; status = mark_of gate }

-- some more entries are offered, one after another
abbrev pub offered : List Numbered → Core → Core
offered [] s = s
offered (e ∷ more) s = offered more (happens s (Offer e))

-- between two states of a gate lies an allowed step
abbrev pub IsStep : Footing → List Numbered → Gate → Step → Gate → Type 0
IsStep feet entries before step gate =
    IsAllowed feet (core_of entries before) step × (core_of entries gate ≡ happens (core_of entries before) step)
