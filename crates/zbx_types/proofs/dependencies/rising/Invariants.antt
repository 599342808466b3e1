use Rattle.std.proofs.Common.{◌≡◌, ◌++◌}
use Rattle.zbx_types.proofs.dependencies.rising.Given as goal

abbrev pub invariant-loop-id : goal.invariant-loop-id
invariant-loop-id l = l.made ++ l.id-iterator ≡ l.ids.keys
