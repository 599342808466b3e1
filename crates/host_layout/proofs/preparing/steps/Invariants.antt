use Rattle.std.proofs.Common.{◌≡◌, ◌++◌, drop, codes}
use Rattle.host_layout.specs.Elements.{placed_item}
use Rattle.host_layout.specs.OwnedItems.{owned, adding}
use Rattle.host_layout.specs.Places.{each_list, placed_from}
use Rattle.host_layout.specs.Prepared.{step_of, steps_of}
use Rattle.host_layout.proofs.preparing.steps.Given as goal

abbrev pub invariant-loop-at : goal.invariant-loop-at
invariant-loop-at l =
    each_list (adding (step_of l.owner.macros)) l.made (placed_from ((placed_item l.source l.index l.raw).path ++ codes "/steps") l.at (drop l.at l.raw.steps))
    ≡ steps_of (owned l.owner.id l.owner.macros (placed_item l.source l.index l.raw))
