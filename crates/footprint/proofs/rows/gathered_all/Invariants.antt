use Rattle.std.proofs.Common.{◌≡◌, ◌++◌, map, drop}
use Rattle.footprint.specs.Rows.{held_by}
use Rattle.footprint.proofs.rows.gathered_all.Given as goal

abbrev pub invariant-loop-row : goal.invariant-loop-row
invariant-loop-row g l = l.made.items ++ map (held_by l.all l.table) (drop l.row-index l.rows) ≡ map (held_by l.all l.table) l.rows
