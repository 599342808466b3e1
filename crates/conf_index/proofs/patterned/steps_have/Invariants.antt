use Rattle.std.proofs.Common.{take}
use Rattle.std.specs.Prelude.{All}
use Rattle.preprocess.specs.Ways.{HasPattern}
use Rattle.conf_index.proofs.patterned.steps_have.Given as goal

abbrev pub invariant-loop-step : goal.invariant-loop-step
invariant-loop-step l = All (HasPattern l.texts) (take l.step-index l.steps)
