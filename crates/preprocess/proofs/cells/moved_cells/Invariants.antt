use Rattle.std.proofs.Common.{◌≡◌, ◌++◌, map, drop}
use Rattle.preprocess.specs.Draft.{kept_of, AreIn}
use Rattle.preprocess.proofs.cells.moved_cells.Given as goal

abbrev pub invariant-loop-cell : goal.invariant-loop-cell
invariant-loop-cell l = record {
  kept : map kept_of l.made.items ++ map kept_of (drop l.cell-index l.cells) ≡ map kept_of l.cells;
  of : AreIn l.to l.made.items;
}
