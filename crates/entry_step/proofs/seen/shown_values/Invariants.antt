use Rattle.std.proofs.Common.{◌≡◌, ◌++◌, ℕ, List, drop}
use Rattle.zbx_types.specs.declared.entries.Stored.{Stored}
use Rattle.entry_step.specs.Calls.{Shown}
use Rattle.entry_step.proofs.Showing.{items_in, shown_over}
use Rattle.entry_step.proofs.seen.shown_values.Given as goal

abbrev pub invariant-loop-item : goal.invariant-loop-item
invariant-loop-item l =
    (items : ℕ → List Stored) → Shown l.calls items
    → l.made ++ shown_over items l.calls.occasion.now (drop l.item-index (items_in l.calls.trigger.now)) ≡ shown_over items l.calls.occasion.now (items_in l.calls.trigger.now)
