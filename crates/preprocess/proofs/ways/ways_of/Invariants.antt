use Rattle.std.proofs.Common.{◌≡◌, ◌++◌, map, drop}
use Rattle.preprocess.specs.Ways.{way_for}
use Rattle.preprocess.proofs.ways.ways_of.Given as goal

abbrev pub invariant-loop-step : goal.invariant-loop-step
invariant-loop-step l = l.ways ++ map (way_for l.patterns) (drop l.step-index l.item.steps) ≡ map (way_for l.patterns) l.item.steps
