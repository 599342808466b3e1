-- The work of several syncers: cells and records behind entries that are offered, claimed, applied and given back.
use Rattle.entry_step.specs.Start.{Start}
use Rattle.std.specs.Prelude.{◌≡◌, ◌<◌, ℕ, ◌==◌, Bool, true, false, List, [], ◌∷◌, ◌++◌, reverse, filter, flat_map, if◌then◌else◌}
use Rattle.trigger_state.specs.Stages.{Stage}
use Rattle.zbx_types.specs.declared.entries.Numbered.{Numbered}
use Rattle.zbx_types.specs.declared.entries.Rec.{Rec}
use Rattle.footprint.specs.Feet.{feet_of}
use Rattle.entry_step.specs.Each.{Each}
use Rattle.entry_step.specs.Records.{out_of, replay}
use Rattle.entry_step.specs.Cells.{Cells, look, AreCellsOf}
use Rattle.entry_step.specs.Laws.{IsGood, cells_done, records_done}
use Rattle.syncer_gate.specs.declared.marks.Mark.{Mark}
use Rattle.syncer_gate.specs.declared.marks.Mark.TheVariants.{Pending, Applied, Taken}
use Rattle.syncer_gate.specs.Marks.{is_taken}
use Rattle.syncer_gate.specs.Core.{Core, Step, Offer, Claim, Apply, GiveBack, happens, start, AreAllowed, InOrder}

-- worked out, its records kept
abbrev pub is_applied : Mark → Bool
is_applied Pending = false
is_applied Applied = true
is_applied (Taken batch) = false

-- a core, the cells, and the records kept of the entry with each number
pub record Worked : Type 0 where
  pub core : Core
  pub cells : Cells
  pub made : ℕ → List Rec

-- the entries of the open batch with an id, the oldest first
abbrev pub batch_in : Core → ℕ → List Numbered
batch_in core id = filter (λ e. is_taken id (core.status e.number)) (reverse core.log)

-- what is kept once the records of each of these entries are kept under its number
abbrev pub keeping : (ℕ → List Rec) → List Numbered → List (List Rec) → ℕ → List Rec
keeping made [] lists = made
keeping made (e ∷ es) [] = made
keeping made (e ∷ es) (rs ∷ lists) = keeping (λ n. if n == e.number then rs else made n) es lists

-- What is there behind a step. The entries of a batch that ends with its results are worked out one after another, and
-- their records are kept; no other step touches cells or records.
abbrev pub worked : Stage → Worked → Step → Worked
worked stage w (Offer e) = record w { core = happens w.core (Offer e) }
worked stage w (Claim id numbers) = record w { core = happens w.core (Claim id numbers) }
worked stage w (GiveBack id) = record w { core = happens w.core (GiveBack id) }
worked stage w (Apply id) = record {
  core = happens w.core (Apply id);
  cells = cells_done stage w.cells (batch_in w.core id);
  made = keeping w.made (batch_in w.core id) (records_done stage w.cells (batch_in w.core id));
}

-- no entry yet behind what stood before: the cells are what the search finds there, and nothing is kept
abbrev pub begin_worked : Start → Worked
begin_worked from = record { core = start; cells = look from [] from.records; made = λ n. [] }

-- what is there behind some steps
abbrev pub worked_all : Stage → Worked → List Step → Worked
worked_all stage w [] = w
worked_all stage w (step ∷ steps) = worked_all stage (worked stage w step) steps

-- an entry of the log is applied
abbrev pub has_applied : Worked → Numbered → Bool
has_applied w e = is_applied (w.core.status e.number)

-- What holds at all times, over what stood before: no order is broken; the cells stand for the applied entries; and the
-- records kept of each applied entry are those that it makes in its place in one thread's replay.
pub record Facts (from : Start) (w : Worked) : Type 0 where
  pub order : InOrder (feet_of from.stage.conf) w.core
  pub stand : AreCellsOf from w.cells (filter (has_applied w) w.core.log)
  pub kept : (newer older : List Numbered) (e : Numbered) → w.core.log ≡ newer ++ e ∷ older → has_applied w e ≡ true
      → w.made e.number ≡ out_of from older e e.entry (from.records ++ replay from older)

-- an entry that a step offers is behind what stood before
abbrev pub OffersBehind : Start → Step → Type 0
OffersBehind from (Offer e) = from.number < e.number
OffersBehind from (Claim id numbers) = Unit {0}
OffersBehind from (Apply id) = Unit {0}
OffersBehind from (GiveBack id) = Unit {0}

-- whatever is offered, claimed, applied and given back behind a good start, the facts hold
abbrev pub EveryScheduleFacts : Type 0
EveryScheduleFacts =
    (from : Start) (steps : List Step) → IsGood from → Each (OffersBehind from) steps
    → AreAllowed (feet_of from.stage.conf) start steps → Facts from (worked_all from.stage (begin_worked from) steps)

-- the records kept of these entries, in the order of their numbers
abbrev pub records_kept : Worked → List Numbered → List Rec
records_kept w log = flat_map (λ e. w.made e.number) (reverse log)

-- where all entries up to a place in the log are applied, the records kept of them are the replay of the log up to it
abbrev pub AtFrontier : Type 0
AtFrontier = (from : Start) (steps : List Step) → IsGood from → Each (OffersBehind from) steps
    → AreAllowed (feet_of from.stage.conf) start steps
    → (newer older : List Numbered) → (worked_all from.stage (begin_worked from) steps).core.log ≡ newer ++ older
    → Each (λ e. has_applied (worked_all from.stage (begin_worked from) steps) e ≡ true) older
    → records_kept (worked_all from.stage (begin_worked from) steps) older ≡ replay from older
