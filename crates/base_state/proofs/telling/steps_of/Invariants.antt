use Rattle.std.proofs.Common.{◌≡◌, ◌++◌, map, drop}
use Rattle.base_laws.specs.Bases.{told_step}
use Rattle.base_state.proofs.telling.steps_of.Given as goal

abbrev pub invariant-loop-memory : goal.invariant-loop-memory
invariant-loop-memory l = l.made ++ map told_step (drop l.memory-index l.marks) ≡ map told_step l.marks
