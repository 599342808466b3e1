use Rattle.std.proofs.Common.{◌≡◌, ◌++◌, ◌<◌, ℕ, length}
use Rattle.zbx_types.specs.Masters.{has_id}
use Rattle.footprint.specs.Rows.{row_at, those}
use Rattle.footprint.proofs.rows.united_all.Given as goal

abbrev pub invariant-loop-place : goal.invariant-loop-place
invariant-loop-place g l = record {
  size : length l.made.items ≡ l.place;
  rows : (id : ℕ) → id < l.place → row_at l.made.items id ≡ those l.all (has_id (row_at l.first id ++ row_at l.second id));
}
