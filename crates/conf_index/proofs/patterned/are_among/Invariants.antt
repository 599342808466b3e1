use Rattle.std.proofs.Common.{take}
use Rattle.std.specs.Prelude.{All}
use Rattle.std.specs.Prelude.{Contains}
use Rattle.conf_index.proofs.patterned.are_among.Given as goal

abbrev pub invariant-loop-one : goal.invariant-loop-one
invariant-loop-one l = All (Contains l.texts) (take l.one-index l.asked)
