use Rattle.std.proofs.Common.{◌≡◌, ℕ, List, map, take}
use Rattle.zbx_types.specs.declared.conf.Conf.{Conf}
use Rattle.entry_step.specs.Log.{log_of}
use Rattle.entry_step.specs.Start.{Start}
use Rattle.intake_front.specs.Fronted.{numbered_of}
use Rattle.intake_front.specs.Misfit.{HasReached}
use Rattle.entry_laws.specs.InForce.{texts_on}
use Rattle.intake_front.specs.Standing.{StandsFor}
use Rattle.intake_front.proofs.fitting.first_misfit.Given as goal

abbrev pub invariant-loop-group : goal.invariant-loop-group
invariant-loop-group l = (flat : List ℕ → Conf) (start : Start) → StandsFor flat l.base start → l.confs ≡ map flat (texts_on start.stage.conf.text (numbered_of start.number l.kept))
    → HasReached flat start (log_of (numbered_of start.number (take l.group-index l.kept))) l.judged
