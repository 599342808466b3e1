use Rattle.std.proofs.Common.{◌≡◌, ◌++◌, drop}
use Rattle.std.specs.List.{flat_map}
use Rattle.footprint.specs.Rows.{row_at}
use Rattle.footprint.proofs.rows.joined.Given as goal

abbrev pub invariant-loop-id : goal.invariant-loop-id
invariant-loop-id l = l.made.items ++ flat_map (row_at l.table) (drop l.id-index l.ids) ≡ flat_map (row_at l.table) l.ids
