use Rattle.std.proofs.Common.{◌≡◌, ◌++◌, drop, codes, flat_map}
use Rattle.host_layout.specs.Elements.{placed_item}
use Rattle.host_layout.specs.OwnedItems.{owned}
use Rattle.host_layout.specs.Patterns.{all_joined}
use Rattle.host_layout.specs.Places.{placed_from}
use Rattle.host_layout.specs.StepPatterns.{used_by, used_by_item}
use Rattle.host_layout.proofs.pattern_steps.join_steps.Given as goal

abbrev pub invariant-loop-at : goal.invariant-loop-at
invariant-loop-at l =
    all_joined l.patterns (flat_map (used_by l.owner.macros) (placed_from ((placed_item l.source l.index l.raw).path ++ codes "/steps") l.at (drop l.at l.raw.steps)))
    ≡ all_joined l.fn.patterns (used_by_item (owned l.owner.id l.owner.macros (placed_item l.source l.index l.raw)))
