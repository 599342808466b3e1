use Rattle.std.proofs.Common.{◌≡◌, ℕ, length}
use Rattle.trigger_state.specs.Cells.{row_at}
use Rattle.trigger_state.proofs.absorbing.reach.Given as goal

abbrev pub invariant-loop-row : goal.invariant-loop-row
invariant-loop-row l = record {
  grows : length l.rows.items ≡ l._row;
  same : (place : ℕ) → row_at l.rows.items place ≡ row_at l.fn.rows.items place;
}
