use Rattle.std.proofs.Common.{◌≡◌, drop, map}
use Rattle.host_layout.specs.OwnedItems.{owned_by}
use Rattle.host_layout.specs.Places.{each_list}
use Rattle.host_layout.specs.Sources.{placed_of}
use Rattle.host_layout.proofs.passes.visit_owned.Given as goal

abbrev pub invariant-loop-source : goal.invariant-loop-source
invariant-loop-source g l =
    each_list (g.P.ItemPass.visits l.pass) l.past (owned_by l.owner.id l.owner.macros (map placed_of (drop l.source-index l.owner.sources)))
    ≡ each_list (g.P.ItemPass.visits l.pass) l.fn.past (owned_by l.owner.id l.owner.macros (map placed_of l.owner.sources))
