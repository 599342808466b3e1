use Rattle.std.proofs.Common.{◌≡◌, ◌++◌, ◌+◌, length}
use Rattle.std.specs.Vec.Iter.{into_iter_items}
use Rattle.intake_front.specs.Intake.{numbered_from, with_group}
use Rattle.journal_opening.proofs.numbering.number_group.Given as goal

-- the entries so far, and those that are left with the numbers behind them
abbrev pub invariant-loop-entry : goal.invariant-loop-entry
invariant-loop-entry l = l.numbered ++ numbered_from (l.before + length l.numbered + 1) (into_iter_items l.entry-iterator) ≡ with_group l.before l.fn.numbered l.fn.entries
