use Rattle.std.proofs.Common.{◌≡◌, drop, codes, flat_map}
use Rattle.host_layout.specs.OwnedItems.{host_items, owned_items}
use Rattle.host_layout.specs.Places.{each_list, placed_from}
use Rattle.host_layout.proofs.passes.visit_items.Given as goal

abbrev pub invariant-loop-place : goal.invariant-loop-place
invariant-loop-place g l =
    each_list (g.P.ItemPass.visits l.pass) l.past (flat_map (host_items l.raw) (placed_from (codes "/hosts") l.place (drop l.place l.raw.hosts)))
    ≡ each_list (g.P.ItemPass.visits l.pass) l.fn.past (owned_items l.raw)
