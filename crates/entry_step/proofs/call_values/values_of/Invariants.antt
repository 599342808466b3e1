use Rattle.std.proofs.Common.{◌≡◌, ◌<◌, ℕ, List, length}
use Rattle.zbx_types.specs.declared.entries.Stored.{Stored}
use Rattle.entry_step.specs.Calls.{Shown, values_of}
use Rattle.conf_index.specs.Evaluation.{value_in}
use Rattle.entry_step.proofs.call_values.values_of.Given as goal

abbrev pub invariant-loop-place : goal.invariant-loop-place
invariant-loop-place l = (length l.values ≡ l.place) × ((items : ℕ → List Stored) → Shown l.calls items → (place : ℕ) → place < l.place → value_in l.values place ≡ values_of l.calls items place)
