use Rattle.std.proofs.Common.{◌≡◌, take}
use Rattle.entry_step.specs.Log.{log_of}
use Rattle.intake_front.specs.Intake.{is_text, last_text}
use Rattle.intake_front.proofs.opening.is_last_text.Given as goal

abbrev pub invariant-loop-numbered : goal.invariant-loop-numbered
invariant-loop-numbered l = l.is_last ≡ is_text l.text (last_text l.before (log_of (take l.numbered-index l.kept)))
