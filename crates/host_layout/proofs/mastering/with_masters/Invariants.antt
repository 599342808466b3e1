use Rattle.std.proofs.Common.{◌≡◌}
use Rattle.host_layout.specs.Masters.{with_master}
use Rattle.host_layout.specs.OwnedItems.{with_each}
use Rattle.host_layout.proofs.Putting.{so_far}
use Rattle.host_layout.proofs.mastering.with_masters.Given as goal

abbrev pub invariant-loop-place : goal.invariant-loop-place
invariant-loop-place l = so_far with_master l.items.items l.masters l.place ≡ with_each with_master l.fn.items l.masters
