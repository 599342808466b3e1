use Rattle.std.proofs.Common.{◌↔◌, drop}
use Rattle.entry_step.specs.Each.{Each}
use Rattle.entry_step.specs.Exchange.{IsSameTrigger}
use Rattle.entry_step.proofs.exchange.same_triggers.Given as goal

abbrev pub invariant-loop-row : goal.invariant-loop-row
invariant-loop-row l = Each (IsSameTrigger l.problems) (drop l.row-index l.rows) ↔ Each (IsSameTrigger l.problems) l.rows
