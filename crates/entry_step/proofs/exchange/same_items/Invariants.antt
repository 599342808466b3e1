use Rattle.std.proofs.Common.{◌↔◌, drop}
use Rattle.entry_step.specs.Each.{Each}
use Rattle.entry_step.specs.Exchange.{IsSameItem}
use Rattle.entry_step.proofs.exchange.same_items.Given as goal

abbrev pub invariant-loop-row : goal.invariant-loop-row
invariant-loop-row l = Each (IsSameItem l.items.cells.items l.items.memories.items) (drop l.row-index l.rows) ↔ Each (IsSameItem l.items.cells.items l.items.memories.items) l.rows
