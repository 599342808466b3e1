use Rattle.std.proofs.Common.{◌≡◌, ◌++◌, drop}
use Rattle.entry_step.specs.Exchange.{trigger_copies}
use Rattle.entry_step.proofs.copying.copied_triggers.Given as goal

abbrev pub invariant-loop-id : goal.invariant-loop-id
invariant-loop-id l = l.rows.items ++ trigger_copies l.problems (drop l.id-index l.ids) ≡ trigger_copies l.problems l.ids
