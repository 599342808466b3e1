use Rattle.std.proofs.Common.{◌≡◌, ◌++◌, drop}
use Rattle.entry_step.specs.Records.{ruled_records}
use Rattle.entry_step.specs.Represents.{problems_at}
use Rattle.entry_step.proofs.records.push_ruled.Given as goal

abbrev pub invariant-loop-event : goal.invariant-loop-event
invariant-loop-event l =
    l.out ++ ruled_records l.stage l.number l.fn.now (problems_at l.problems) (drop l.event-index l.events) ≡ l.fn.out ++ ruled_records l.stage l.number l.fn.now (problems_at l.problems) l.events
