use Rattle.std.proofs.Common.{flat_map, take}
use Rattle.base_laws.specs.Bases.{read_problem}
use Rattle.entry_step.specs.Changes.{Absorbed}
use Rattle.base_laws.specs.Restoring.{AreHoused}
use Rattle.base_state.proofs.problems.take_problems.Given as goal

abbrev pub invariant-loop-problem : goal.invariant-loop-problem
invariant-loop-problem l =
    AreHoused l.stage l.fn.rows.items l.problems → Absorbed l.stage l.fn.rows.items (flat_map read_problem (take l.problem-index l.problems)) l.rows.items
