use Rattle.std.proofs.Common.{◌≡◌, take, length}
use Rattle.footprint.specs.Rows.{IsNoted}
use Rattle.footprint.proofs.rows.enter.Given as goal

abbrev pub invariant-loop-id : goal.invariant-loop-id
invariant-loop-id l = record {
  size : length l.rows.items ≡ length l.fn.rows.items;
  rows : IsNoted l.fn.rows.items (take l.id-index l.ids) l.one l.rows.items;
}
