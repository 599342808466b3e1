use Rattle.std.proofs.Common.{◌≡◌, map, take}
use Rattle.entry_step.specs.Exchange.{roomless_row}
use Rattle.entry_step.proofs.copying.items_again.Given as goal

abbrev pub invariant-loop-row : goal.invariant-loop-row
invariant-loop-row l = map roomless_row l.made.items ≡ map roomless_row (take l.row-index l.rows)
