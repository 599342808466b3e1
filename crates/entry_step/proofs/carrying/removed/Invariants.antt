use Rattle.std.proofs.Common.{◌≡◌, map, take}
use Rattle.zbx_types.specs.declared.entries.Cause2.TheVariants as causes
use Rattle.entry_step.specs.Records.{recovery_of}
use Rattle.entry_step.proofs.carrying.removed.Given as goal

abbrev pub invariant-loop-event : goal.invariant-loop-event
invariant-loop-event l = l.made ≡ map (recovery_of l.number l.now causes.Removed) (take l.event-index l.gone)
