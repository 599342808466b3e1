use Rattle.std.proofs.Common.{◌≡◌, ◌++◌, map, take}
use Rattle.base_laws.specs.Bases.{told_problem}
use Rattle.base_state.proofs.telling.push_problems.Given as goal

abbrev pub invariant-loop-one : goal.invariant-loop-one
invariant-loop-one l = l.made.items ≡ l.fn.made.items ++ map told_problem (take l.one-index l.opens)
