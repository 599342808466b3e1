use Rattle.std.proofs.Common.{◌≡◌, ◌++◌, map, drop}
use Rattle.preprocess.specs.Cells.{no_marks}
use Rattle.preprocess.proofs.cells.all_marks.Given as goal

abbrev pub invariant-loop-item : goal.invariant-loop-item
invariant-loop-item l = l.memories.items ++ map no_marks (drop l.item-index l.items) ≡ map no_marks l.items
