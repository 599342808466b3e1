use Rattle.std.proofs.Common.{take}
use Rattle.conf_index.proofs.Packing.{IsPacked}
use Rattle.conf_index.proofs.packed.pack.Given as goal

abbrev pub invariant-loop-ids : goal.invariant-loop-ids
invariant-loop-ids l = IsPacked l.made.starts l.made.items (take l.ids-index l.rows)
