use Rattle.std.proofs.Common.{◌≤◌, ℕ}
use Rattle.base_state.specs.Fitting.{FitsAt}
use Rattle.base_state.proofs.fitting.items_fit.Given as goal

abbrev pub invariant-loop-place : goal.invariant-loop-place
invariant-loop-place l = (id : ℕ) → id ≤ l.place → FitsAt l.conf l.base id
