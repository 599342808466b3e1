use Rattle.std.proofs.Common.{◌≡◌, map, take}
use Rattle.conf_index.specs.Index.{some_reaches}
use Rattle.conf_index.proofs.reached.reached.Given as goal

abbrev pub invariant-loop-trigger : goal.invariant-loop-trigger
invariant-loop-trigger l = l.made ≡ map (some_reaches l.rules) (take l.trigger-index l.triggers)
