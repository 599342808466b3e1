use Rattle.std.proofs.Common.{◌≡◌, ◌++◌, map, drop}
use Rattle.book.specs.Progress.{entry_at}
use Rattle.book.proofs.inputs.copies.Given as goal

abbrev pub invariant-loop-number : goal.invariant-loop-number
invariant-loop-number l = l.made ++ map (entry_at l.all.before l.all.entries.now) (drop l.number-index l.numbers) ≡ map (entry_at l.all.before l.all.entries.now) l.numbers
