use Rattle.std.proofs.Common.{◌≡◌, ◌+◌, ◌++◌, drop}
use Rattle.base_state.specs.Telling.{cell_items}
use Rattle.base_state.proofs.telling.items_of.Given as goal

abbrev pub invariant-loop-place : goal.invariant-loop-place
invariant-loop-place l = l.made ++ cell_items l.fn.now l.memories (l.place + 1) (drop l.place l.cells) ≡ cell_items l.fn.now l.memories 1 l.cells
