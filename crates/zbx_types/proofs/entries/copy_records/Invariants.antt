use Rattle.std.proofs.Common.{◌≡◌, take}
use Rattle.zbx_types.proofs.entries.copy_records.Given as goal

abbrev pub invariant-loop-rec : goal.invariant-loop-rec
invariant-loop-rec l = l.made ≡ take l.rec-index l.records
