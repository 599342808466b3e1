use Rattle.std.proofs.Common.{◌≡◌}
use Rattle.host_layout.specs.Prepared.{with_steps}
use Rattle.host_layout.specs.OwnedItems.{with_each}
use Rattle.host_layout.proofs.Putting.{so_far}
use Rattle.host_layout.proofs.preparing.with_steps.Given as goal

abbrev pub invariant-loop-place : goal.invariant-loop-place
invariant-loop-place l = so_far with_steps l.items.items l.lists.items l.place ≡ with_each with_steps l.fn.items l.fn.lists
