use Rattle.std.proofs.Common.{◌≡◌, false, take}
use Rattle.intake_front.specs.Waiting.{has_tick}
use Rattle.intake_front.proofs.settling.has_tick.Given as goal

abbrev pub invariant-loop-entry : goal.invariant-loop-entry
invariant-loop-entry l = has_tick (take l.entry-index l.entries) ≡ false
