use Rattle.std.proofs.Common.{◌≡◌, ◌++◌, ◌+◌, drop}
use Rattle.conf_index.specs.Index.{reach_from}
use Rattle.conf_index.proofs.reached.reach_of.Given as goal

abbrev pub invariant-loop-place : goal.invariant-loop-place
invariant-loop-place l = l.row ++ reach_from l.rule (l.place + 1) (drop l.place l.triggers) ≡ reach_from l.rule 1 l.triggers
