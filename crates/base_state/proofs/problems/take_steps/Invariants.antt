use Rattle.std.proofs.Common.{map, take}
use Rattle.zbx_types.specs.Records.{event_of}
use Rattle.base_laws.specs.Bases.{read_ran}
use Rattle.entry_step.specs.Changes.{Absorbed}
use Rattle.base_laws.specs.Restoring.{IsHoused}
use Rattle.base_state.proofs.problems.take_steps.Given as goal

abbrev pub invariant-loop-one : goal.invariant-loop-one
invariant-loop-one l =
    IsHoused l.stage l.fn.rows.items (event_of l.problem) → Absorbed l.stage l.fn.rows.items (map (read_ran (event_of l.problem)) (take l.one-index l.ran)) l.rows.items
