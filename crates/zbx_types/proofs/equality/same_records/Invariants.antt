use Rattle.std.proofs.Common.{◌≡◌, take}
use Rattle.zbx_types.proofs.equality.same_records.Given as goal

abbrev pub invariant-loop-index : goal.invariant-loop-index
invariant-loop-index l = take l.index l.ones ≡ take l.index l.others
