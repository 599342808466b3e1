use Rattle.std.proofs.Common.{◌≡◌, ◌++◌, [], replicate}
use Rattle.conf_index.proofs.rows.widen.Given as goal

abbrev pub invariant-loop-row : goal.invariant-loop-row
invariant-loop-row l = l.rows.items ≡ l.fn.rows.items ++ replicate l._row []
