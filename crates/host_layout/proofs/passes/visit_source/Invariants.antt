use Rattle.std.proofs.Common.{◌≡◌, ◌++◌, drop, codes, map}
use Rattle.host_layout.specs.OwnedItems.{owned}
use Rattle.host_layout.specs.Elements.{own_items}
use Rattle.host_layout.specs.Places.{each_list, placed_from}
use Rattle.host_layout.specs.Sources.{placed_of}
use Rattle.host_layout.proofs.passes.visit_source.Given as goal

abbrev pub invariant-loop-index : goal.invariant-loop-index
invariant-loop-index g l =
    each_list (g.P.ItemPass.visits l.pass) l.past (map (owned l.owner.id l.owner.macros) (placed_from ((placed_of l.source).path ++ codes "/items") l.index (drop l.index l.source.body.now.items)))
    ≡ each_list (g.P.ItemPass.visits l.pass) l.fn.past (map (owned l.owner.id l.owner.macros) (own_items l.source))
