use Rattle.std.proofs.Common.{◌≡◌, ◌++◌, [], drop, codes}
use Rattle.host_layout.specs.Places.{each, placed, placed_from}
use Rattle.host_layout.specs.PlacedSteps.{step_path}
use Rattle.host_layout.specs.Prepared.{param_of}
use Rattle.host_layout.proofs.preparing.params.Given as goal

abbrev pub invariant-loop-index : goal.invariant-loop-index
invariant-loop-index l =
    each (param_of l.raw.kind l.owner.macros) l.made (placed_from (step_path l.place ++ codes "/params") l.index (drop l.index l.raw.params))
    ≡ each (param_of l.raw.kind l.owner.macros) [] (placed (step_path l.place ++ codes "/params") l.raw.params)
