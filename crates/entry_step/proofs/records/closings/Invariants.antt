use Rattle.std.proofs.Common.{◌≡◌, ◌++◌, drop}
use Rattle.std.specs.Prelude.{flat_map}
use Rattle.zbx_types.specs.declared.entries.Cause2.TheVariants as causes
use Rattle.entry_step.specs.Records.{closed_records}
use Rattle.entry_step.proofs.records.closings.Given as goal

abbrev pub invariant-loop-event : goal.invariant-loop-event
invariant-loop-event l =
    l.made ++ flat_map (closed_records l.conf l.number l.fn.now causes.Expression l.opens) (drop l.event-index l.events) ≡ flat_map (closed_records l.conf l.number l.fn.now causes.Expression l.opens) l.events
