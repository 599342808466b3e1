use Rattle.std.proofs.Common.{◌≡◌, ◌++◌, ◌+◌, drop, length}
use Rattle.footprint.specs.Rows.{rows_from, table_of}
use Rattle.footprint.specs.Feet.{chain}
use Rattle.footprint.proofs.tables.chains.Given as goal

abbrev pub invariant-loop-place : goal.invariant-loop-place
invariant-loop-place l = l.made.items ++ rows_from (chain l.conf (length l.conf.items)) (l.place + 1) (drop l.place l.conf.items) ≡ table_of l.conf.items (chain l.conf (length l.conf.items))
