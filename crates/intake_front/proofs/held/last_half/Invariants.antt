use Rattle.std.proofs.Common.{◌≡◌, take}
use Rattle.std.specs.Option.{option_map}
use Rattle.entry_step.specs.Log.{log_of}
use Rattle.intake_front.specs.Intake.{half_minute, last_tick}
use Rattle.intake_front.proofs.held.last_half.Given as goal

abbrev pub invariant-loop-numbered : goal.invariant-loop-numbered
invariant-loop-numbered l = l.last ≡ option_map half_minute (last_tick l.fn.before (log_of (take l.numbered-index l.entries)))
