-- The book: the work on the entries of a ring, and the lines that go out of it.
use Rattle.std.specs.Prelude.{◌≡◌, ◌≢◌, ◌≤◌, ◌<◌, ◌+◌, ◌-◌, ℕ, List, ◌++◌, length, take, drop, get_or, IfSome}
use Rattle.zbx_types.specs.declared.base.Base.{Base}
use Rattle.zbx_types.specs.declared.conf.Conf.{Conf}
use Rattle.zbx_types.specs.declared.entries.Numbered.{Numbered}
use Rattle.zbx_types.specs.declared.entries.Rec.{Rec}
use Rattle.outside.specs.Tells.{SinkTells}
use Rattle.entry_step.specs.Log.{log_of}
use Rattle.entry_step.specs.Represents.{CellsView}
use Rattle.syncer_gate.specs.Gate.{Gate}
use Rattle.syncer_gate.specs.declared.marks.Mark.{Mark}
use Rattle.syncer_gate.specs.declared.marks.Mark.TheVariants.{Pending, Applied}
use Rattle.book_opening.specs.declared.tally.Tally.{Tally}
use Rattle.book_opening.specs.Outgoing.{HasFront, log_lines, log_tally}
use Rattle.book.specs.Progress.{ProgressView}

-- The entries that came out of the ring, in the order of their numbers, where each stands, the cells, and the records
-- kept of each of them; of how many of them from the first on the lines were made, and what the records of these and of
-- the entries before them count; what the outbox tells, and the lines that it doesn't have yet.
pub record BookView : Type 0 where
  pub entries : List Numbered
  pub gate : Gate
  pub cells : CellsView
  pub made : List (List Rec)
  pub frontier : ℕ
  pub tally : Tally
  pub sink : SinkTells
  pub unwritten : List ℕ

-- what a book shows of the work on its entries
abbrev pub work_of : BookView → ProgressView
work_of b = record { entries = b.entries; gate = b.gate; cells = b.cells; made = b.made }

-- the first entries, as many as this, are applied
abbrev pub AreApplied : List Mark → ℕ → Type 0
AreApplied marks n = (i : ℕ) → i < n → get_or marks i Pending ≡ Applied

-- each mark that says applied in the first list says so in the other too
abbrev pub StayApplied : List Mark → List Mark → Type 0
StayApplied marks marks' = (i : ℕ) → get_or marks i Pending ≡ Applied → get_or marks' i Pending ≡ Applied

-- as many of the first entries are applied, and no more
abbrev pub IsFrontier : List Mark → List Numbered → ℕ → Type 0
IsFrontier marks entries n =
    (n ≤ length entries) × AreApplied marks n × (n < length entries → get_or marks n Pending ≢ Applied)

-- the entries with which a run began, and the first of those behind them, as many as this
abbrev pub upto : List Numbered → List Numbered → ℕ → List Numbered
upto kept entries n = kept ++ take n entries

-- the lines of these entries, behind a base
abbrev pub lines_upto : (List ℕ → Conf) → Base → List Numbered → List Numbered → ℕ → List ℕ
lines_upto flat base kept entries n = log_lines flat base (log_of (upto kept entries n))

-- with what a run begins: the configuration that each text stands for, the base of its journal, the entries that this kept
-- behind it, and what its outbox told
pub record Begun : Type 0 where
  pub flat : List ℕ → Conf
  pub base : Base
  pub kept : List Numbered
  pub outbox : SinkTells

-- What holds of a book at all times. Its entries are those that came out of the ring. Its lines and counts are those
-- of the entries with which the run began and of its own before its frontier, which are applied. Behind the base's lines the
-- outbox has a front of these lines, and the others aren't written yet.
pub record IsBook (run : Begun) (received entries : List Numbered) (marks : List Mark) (frontier : ℕ) (tally : Tally)
    (sink : SinkTells) (unwritten : List ℕ) : Type 0 where
  pub received_is : entries ≡ received
  pub within : frontier ≤ length entries
  pub applied : AreApplied marks frontier
  pub tally_is : tally ≡ log_tally run.flat run.base (log_of (upto run.kept entries frontier))
  pub enough : run.outbox.held ≤ run.base.lines + length (log_lines run.flat run.base (log_of run.kept))
  pub lawful : IfSome run.outbox.bytes (λ b. run.outbox.held ≡ length b)
  pub front : HasFront run.base.lines run.outbox sink (lines_upto run.flat run.base run.kept entries frontier)
  pub left : unwritten ≡ drop (sink.held - run.base.lines) (lines_upto run.flat run.base run.kept entries frontier)
  pub later : run.outbox.faults ≤ sink.faults
