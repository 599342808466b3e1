use Rattle.std.proofs.Common.{◌≡◌, ◌++◌, ℕ, List, map, take}
use Rattle.zbx_types.specs.declared.conf.Conf.{Conf}
use Rattle.zbx_types.specs.declared.entries.Numbered.{Numbered}
use Rattle.entry_step.specs.Log.{log_of}
use Rattle.entry_step.specs.Start.{Start}
use Rattle.intake_front.specs.Misfit.{HasReached, log_with}
use Rattle.entry_laws.specs.InForce.{texts_on}
use Rattle.intake_front.proofs.fitting.entries_fit.Given as goal

abbrev pub invariant-loop-entry : goal.invariant-loop-entry
invariant-loop-entry l = (flat : List ℕ → Conf) (start : Start) (before : ℕ) (log : List Numbered) (rest : List Conf) → HasReached flat start log l.initial.judged
    → l.confs ≡ map flat (texts_on start.stage.conf.text (log_of (log_with before log l.entries))) ++ rest → HasReached flat start (log_with before log (take l.entry-index l.entries)) l.judged
