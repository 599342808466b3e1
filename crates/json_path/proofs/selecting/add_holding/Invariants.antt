use Rattle.std.proofs.Common.{◌≡◌, ◌++◌, drop, filter}
use Rattle.json_path.specs.Seen.{seen}
use Rattle.json_path.specs.Comparing.{condition_holds}
use Rattle.json_path.proofs.selecting.add_holding.Given as goal

abbrev pub invariant-loop-value : goal.invariant-loop-value
invariant-loop-value l = seen l.found.items ++ filter (condition_holds l.condition) (seen (drop l.value-index l.values)) ≡ seen l.fn.found.items ++ filter (condition_holds l.condition) (seen l.values)
