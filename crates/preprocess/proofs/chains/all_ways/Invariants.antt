use Rattle.std.proofs.Common.{◌≡◌, ◌++◌, map, drop}
use Rattle.preprocess.specs.Ways.{ways_for}
use Rattle.preprocess.proofs.chains.all_ways.Given as goal

abbrev pub invariant-loop-item : goal.invariant-loop-item
invariant-loop-item l = l.ways.items ++ map (ways_for l.patterns) (drop l.item-index l.conf.items) ≡ map (ways_for l.patterns) l.conf.items
