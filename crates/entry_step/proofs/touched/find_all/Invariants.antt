use Rattle.std.proofs.Common.{◌≡◌, ◌++◌, ◌+◌, drop}
use Rattle.zbx_types.specs.Ids.{ids_from}
use Rattle.entry_step.proofs.touched.find_all.Given as goal

abbrev pub invariant-loop-place : goal.invariant-loop-place
invariant-loop-place g l = l.found.items ++ ids_from (l.place + 1) (drop l.place l.all) ≡ l.fn.found.items ++ ids_from 1 l.all
