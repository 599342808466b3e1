use Rattle.std.proofs.Common.{take}
use Rattle.std.specs.Prelude.{All}
use Rattle.conf_index.specs.Patterned.{HasTexts}
use Rattle.conf_index.proofs.patterned.all_have.Given as goal

abbrev pub invariant-loop-trigger : goal.invariant-loop-trigger
invariant-loop-trigger l = All (HasTexts l.texts) (take l.trigger-index l.triggers)
