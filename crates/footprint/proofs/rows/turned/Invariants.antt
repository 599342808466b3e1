use Rattle.std.proofs.Common.{◌≡◌, ◌+◌, length}
use Rattle.footprint.specs.Rows.{IsTurned}
use Rattle.footprint.proofs.rows.turned.Given as goal

abbrev pub invariant-loop-place : goal.invariant-loop-place
invariant-loop-place g l = record {
  size : length l.made.items ≡ length l.all + 1;
  rows : IsTurned (length l.all + 1) l.place l.rows l.made.items;
}
