use Rattle.std.proofs.Common.{◌≡◌, ◌++◌, drop, length, map}
use Rattle.host_layout.specs.Masters.{place_of, master_links}
use Rattle.host_layout.proofs.mastering.master_links.Given as goal

abbrev pub invariant-loop-item : goal.invariant-loop-item
invariant-loop-item l = l.links.items ++ map (λ i. place_of (length l.items) i.master) (drop l.item-index l.items) ≡ master_links l.items
