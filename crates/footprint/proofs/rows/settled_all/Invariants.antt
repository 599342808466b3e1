use Rattle.std.proofs.Common.{◌≡◌, ◌++◌, map, drop}
use Rattle.zbx_types.specs.Masters.{has_id}
use Rattle.footprint.specs.Rows.{those}
use Rattle.footprint.proofs.rows.settled_all.Given as goal

abbrev pub invariant-loop-row : goal.invariant-loop-row
invariant-loop-row g l = l.made.items ++ map (λ row. those l.all (has_id row)) (drop l.row-index l.rows) ≡ map (λ row. those l.all (has_id row)) l.rows
