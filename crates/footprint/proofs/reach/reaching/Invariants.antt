use Rattle.std.proofs.Common.{◌≡◌, ◌++◌, ◌+◌, drop}
use Rattle.footprint.specs.Reaches.{reached_from}
use Rattle.footprint.proofs.reach.reaching.Given as goal

abbrev pub invariant-loop-place : goal.invariant-loop-place
invariant-loop-place l = l.row ++ reached_from l.trigger (l.place + 1) (drop l.place l.rules) ≡ reached_from l.trigger 1 l.rules
